use Rattle.str_indices.proofs.TextLaws.{ends_and_places_agree-chars, ends_and_places_agree-lines}
use Rattle.str_indices.proofs.laws.ends_and_places_agree.Goals as goal

pub returns-clause-chars : goal.returns-clause-chars
returns-clause-chars c = ends_and_places_agree-chars

pub returns-clause-lines : goal.returns-clause-lines
returns-clause-lines c = ends_and_places_agree-lines
