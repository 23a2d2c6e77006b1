-- Every command represents some command of the definition.
use Rattle.rope_search.proofs.StandLaws.{stands_exist}
use Rattle.rope_search.proofs.laws.stands_for_some.Goals as goal

pub returns : goal.returns
returns c = λ limit command. stands_exist limit command
