use Rattle.str_indices.proofs.TextLaws.{boundaries_and_indices_agree-chars, boundaries_and_indices_agree-units}
use Rattle.str_indices.proofs.laws.boundaries_and_indices_agree.Goals as goal

pub returns-clause-chars : goal.returns-clause-chars
returns-clause-chars c = boundaries_and_indices_agree-chars

pub returns-clause-units : goal.returns-clause-units
returns-clause-units c = boundaries_and_indices_agree-units
