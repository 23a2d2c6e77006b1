use Rattle.rx_steps.proofs.AlikeBackLaws.{steps_back_are_thinned}
use Rattle.rx_steps.proofs.laws.steps_back_are_thinned.Goals as goal

pub returns : goal.returns
returns c = steps_back_are_thinned
