use Rattle.rope_search.proofs.HistoryLaws.{undo_replace}
use Rattle.rope_search.proofs.laws.undo_undoes_replace.Goals as goal

pub returns : goal.returns
returns c = undo_replace
