use Rattle.std.proofs.Common.{refl}
use Rattle.rope_search_c.proofs.counting.CountingSession.cancel_text.Goals as goal

pub returns : goal.returns
returns c = record { told = refl; is = refl }
