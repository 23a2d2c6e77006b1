use Rattle.rx_walks.proofs.ForwardLaws.{number_told}
use Rattle.rx_walks.proofs.laws_back.numbers_are_told.Goals as goal

pub returns : goal.returns
returns c = λ a b. number_told a b
