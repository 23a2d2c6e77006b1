use Rattle.rx_walks.proofs.WalkLaws.{step_keeps}
use Rattle.rx_walks.proofs.laws.steps_keep_best.Goals as goal

pub returns : goal.returns
returns c = λ w m i seen threads next met out steps best. step_keeps steps best
