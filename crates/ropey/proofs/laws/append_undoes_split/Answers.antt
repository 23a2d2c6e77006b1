use Rattle.std.proofs.Common.{take-append-drop}
use Rattle.ropey.proofs.laws.append_undoes_split.Goals as goal

pub returns : goal.returns
returns c = λ text at. take-append-drop at text
