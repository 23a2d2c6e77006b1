use Rattle.rx_program.proofs.ClosedLaws.{programs_are_closed}
use Rattle.rx_program.proofs.laws.programs_are_closed.Goals as goal

pub returns : goal.returns
returns c = programs_are_closed
