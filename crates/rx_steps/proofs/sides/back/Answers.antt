use Rattle.rx_steps.proofs.SideLaws.{back_is}
use Rattle.rx_steps.proofs.sides.back.Goals as goal

pub returns : goal.returns
returns c = back_is c.args.bytes.now c.args.len c.min.result c.min.ensures
