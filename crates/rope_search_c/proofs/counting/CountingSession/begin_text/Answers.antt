use Rattle.std.proofs.Common.{refl}
use Rattle.rope_search_c.proofs.counting.CountingSession.begin_text.Goals as goal

pub returns : goal.returns
returns c = record { told = refl; arriving = c.open.ensures c.args.self.now.session.limit; session = refl; lines = refl }
