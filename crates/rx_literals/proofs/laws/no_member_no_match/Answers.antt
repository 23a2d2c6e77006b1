use Rattle.rx_literals.proofs.ByteSetLaws.{no_member_no_match}
use Rattle.rx_literals.proofs.laws.no_member_no_match.Goals as goal

pub returns : goal.returns
returns c = no_member_no_match
