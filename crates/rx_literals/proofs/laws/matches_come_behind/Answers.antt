use Rattle.rx_literals.proofs.SkipLaws.{matches_come_behind}
use Rattle.rx_literals.proofs.laws.matches_come_behind.Goals as goal

pub returns : goal.returns
returns c = matches_come_behind
