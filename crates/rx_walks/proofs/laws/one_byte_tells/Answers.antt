use Rattle.rx_walks.proofs.LookLaws.{one_byte_tells}
use Rattle.rx_walks.proofs.laws.one_byte_tells.Goals as goal

pub returns : goal.returns
returns c = one_byte_tells
