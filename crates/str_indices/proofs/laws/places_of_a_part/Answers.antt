use Rattle.str_indices.proofs.TextLaws.{places_of_a_part-chars, places_of_a_part-units, places_of_a_part-lines}
use Rattle.str_indices.proofs.laws.places_of_a_part.Goals as goal

pub returns-clause-chars : goal.returns-clause-chars
returns-clause-chars c = places_of_a_part-chars

pub returns-clause-units : goal.returns-clause-units
returns-clause-units c = places_of_a_part-units

pub returns-clause-lines : goal.returns-clause-lines
returns-clause-lines c = places_of_a_part-lines
