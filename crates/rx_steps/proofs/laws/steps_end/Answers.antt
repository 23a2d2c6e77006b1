use Rattle.rx_steps.proofs.AlikeLaws.{steps_end}
use Rattle.rx_steps.proofs.laws.steps_end.Goals as goal

pub returns : goal.returns
returns c = steps_end
