use Rattle.rope_search.proofs.NextLaws.{next_bounds}
use Rattle.rope_search.proofs.laws.finds_at_boundaries.Goals as goal

pub returns : goal.returns
returns c = next_bounds c.finds_are_in_text.ensures
