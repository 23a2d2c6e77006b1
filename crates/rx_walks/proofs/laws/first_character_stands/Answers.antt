use Rattle.rx_walks.proofs.CharacterLaws.{first_stands, stands_first}
use Rattle.rx_walks.proofs.laws.first_character_stands.Goals as goal

pub returns : goal.returns
returns c = λ bytes k. ((λ e. first_stands bytes k e), (λ stands. stands_first bytes k stands))
