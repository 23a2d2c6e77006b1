use Rattle.rx_walks.proofs.LookLaws.{four_bytes_tell}
use Rattle.rx_walks.proofs.laws.four_bytes_tell.Goals as goal

pub returns : goal.returns
returns c = four_bytes_tell
