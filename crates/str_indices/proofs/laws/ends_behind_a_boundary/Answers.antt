use Rattle.str_indices.proofs.TextLaws.{ends_behind_a_boundary-chars, ends_behind_a_boundary-units, ends_behind_a_boundary-lines}
use Rattle.str_indices.proofs.laws.ends_behind_a_boundary.Goals as goal

pub returns-clause-chars : goal.returns-clause-chars
returns-clause-chars c = ends_behind_a_boundary-chars

pub returns-clause-units : goal.returns-clause-units
returns-clause-units c = ends_behind_a_boundary-units

pub returns-clause-lines : goal.returns-clause-lines
returns-clause-lines c = ends_behind_a_boundary-lines
