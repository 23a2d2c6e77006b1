use Rattle.rx_escape.proofs.EscapedLaws.{weighs_little}
use Rattle.rx_escape.proofs.laws.escaped_weighs_little.Goals as goal

pub returns : goal.returns
returns c = λ text. weighs_little text
