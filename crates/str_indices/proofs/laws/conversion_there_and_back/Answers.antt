use Rattle.str_indices.proofs.TextLaws.{conversion_there_and_back-chars, conversion_there_and_back-lines, conversion_there_and_back-second_unit, conversion_there_and_back-other_units}
use Rattle.str_indices.proofs.laws.conversion_there_and_back.Goals as goal

pub returns-clause-chars : goal.returns-clause-chars
returns-clause-chars c = conversion_there_and_back-chars

pub returns-clause-lines : goal.returns-clause-lines
returns-clause-lines c = conversion_there_and_back-lines

pub returns-clause-second_unit : goal.returns-clause-second_unit
returns-clause-second_unit c = conversion_there_and_back-second_unit

pub returns-clause-other_units : goal.returns-clause-other_units
returns-clause-other_units c = conversion_there_and_back-other_units
