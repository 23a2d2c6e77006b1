use Rattle.ropey.proofs.Editing.{undone}
use Rattle.ropey.proofs.laws.removal_undoes_insertion.Goals as goal

pub returns : goal.returns
returns c = undone
