use Rattle.rx_program.proofs.OwnerLaws.{programs_have_owners}
use Rattle.rx_program.proofs.laws.programs_have_owners.Goals as goal

pub returns : goal.returns
returns c = λ trees terminator. programs_have_owners trees terminator
