use Rattle.rope_search.proofs.NextLaws.{next_alike}
use Rattle.rope_search.proofs.laws.finds_alike.Goals as goal

pub returns : goal.returns
returns c = next_alike c.known.ensures
