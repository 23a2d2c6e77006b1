use Rattle.str_indices.proofs.TextLaws.{ends_of_a_part-chars, ends_of_a_part-units, ends_of_a_part-lines}
use Rattle.str_indices.proofs.laws.ends_of_a_part.Goals as goal

pub returns-clause-chars : goal.returns-clause-chars
returns-clause-chars c = ends_of_a_part-chars

pub returns-clause-units : goal.returns-clause-units
returns-clause-units c = ends_of_a_part-units

pub returns-clause-lines : goal.returns-clause-lines
returns-clause-lines c = ends_of_a_part-lines
