use Rattle.std.proofs.Common.{refl}
use Rattle.rope_search_c.proofs.counting.CountingSession.cancel.Goals as goal

pub returns : goal.returns
returns c =
    record { told = refl; cancels = c.cancel.ensures.cancels; state = c.cancel.ensures.state; limit = c.cancel.ensures.limit; lines = refl; arriving = refl }
