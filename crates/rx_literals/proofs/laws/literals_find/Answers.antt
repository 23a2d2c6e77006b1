use Rattle.rx_literals.proofs.LiteralLaws.{literals_find}
use Rattle.rx_literals.proofs.laws.literals_find.Goals as goal

pub returns : goal.returns
returns c = literals_find
