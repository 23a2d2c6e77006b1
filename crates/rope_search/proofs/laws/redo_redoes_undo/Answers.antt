use Rattle.rope_search.proofs.HistoryLaws.{redo_undo}
use Rattle.rope_search.proofs.laws.redo_redoes_undo.Goals as goal

pub returns : goal.returns
returns c = redo_undo
