use Rattle.rx_literals.proofs.ByteSetLaws.{matches_come_from_member}
use Rattle.rx_literals.proofs.laws.matches_come_from_member.Goals as goal

pub returns : goal.returns
returns c = matches_come_from_member
