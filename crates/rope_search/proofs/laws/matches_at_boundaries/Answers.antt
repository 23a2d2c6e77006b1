use Rattle.rope_search.proofs.TextLaws.{boundaries_listed}
use Rattle.rope_search.proofs.laws.matches_at_boundaries.Goals as goal

pub returns : goal.returns
returns c = boundaries_listed c.known.ensures c.matches_at_boundaries.ensures
