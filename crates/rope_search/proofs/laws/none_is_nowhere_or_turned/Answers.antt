use Rattle.rope_search.proofs.NoneLaws.{none_between}
use Rattle.rope_search.proofs.laws.none_is_nowhere_or_turned.Goals as goal

pub returns : goal.returns
returns c = none_between c.one_place.ensures
