use Rattle.rx_walks.proofs.LookLaws.{last_stands, stands_last}
use Rattle.rx_walks.proofs.laws.last_character_stands.Goals as goal

pub returns : goal.returns
returns c = λ back k. ((λ e. last_stands back k e), (λ stands. stands_last back k stands))
