use Rattle.str_indices.proofs.TextLaws.{place_there_and_back-lines, place_there_and_back-chars, place_there_and_back-units, place_there_and_back-nearest_char, place_there_and_back-nearest_unit}
use Rattle.str_indices.proofs.laws.place_there_and_back.Goals as goal

pub returns-clause-lines : goal.returns-clause-lines
returns-clause-lines c = place_there_and_back-lines

pub returns-clause-chars : goal.returns-clause-chars
returns-clause-chars c = place_there_and_back-chars

pub returns-clause-units : goal.returns-clause-units
returns-clause-units c = place_there_and_back-units

pub returns-clause-nearest_char : goal.returns-clause-nearest_char
returns-clause-nearest_char c = place_there_and_back-nearest_char

pub returns-clause-nearest_unit : goal.returns-clause-nearest_unit
returns-clause-nearest_unit c = place_there_and_back-nearest_unit
