use Rattle.rx_steps.proofs.IdleLaws.{none_known}
use Rattle.rx_steps.proofs.idle.IdleBytes.new.Goals as goal

pub returns : goal.returns
returns c = λ b known. none_known 256 b known
