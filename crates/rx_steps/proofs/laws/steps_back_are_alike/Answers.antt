use Rattle.rx_steps.proofs.AlikeBackLaws.{steps_back_are_alike}
use Rattle.rx_steps.proofs.laws.steps_back_are_alike.Goals as goal

pub returns : goal.returns
returns c = steps_back_are_alike
