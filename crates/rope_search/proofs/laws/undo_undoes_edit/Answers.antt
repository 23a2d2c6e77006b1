use Rattle.rope_search.proofs.HistoryLaws.{undo_edit}
use Rattle.rope_search.proofs.laws.undo_undoes_edit.Goals as goal

pub returns : goal.returns
returns c = undo_edit
