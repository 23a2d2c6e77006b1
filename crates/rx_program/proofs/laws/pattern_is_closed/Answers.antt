use Rattle.rx_program.proofs.ClosedLaws.{pattern_is_closed}
use Rattle.rx_program.proofs.laws.pattern_is_closed.Goals as goal

pub returns : goal.returns
returns c = pattern_is_closed
