use Rattle.rx_steps.proofs.AlikeLaws.{steps_are_alike}
use Rattle.rx_steps.proofs.laws.steps_are_alike.Goals as goal

pub returns : goal.returns
returns c = steps_are_alike
