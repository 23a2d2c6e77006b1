use Rattle.str_indices.proofs.TextLaws.{breaks_behind_the_first}
use Rattle.str_indices.proofs.laws.breaks_behind_the_first.Goals as goal

pub returns : goal.returns
returns c = breaks_behind_the_first
