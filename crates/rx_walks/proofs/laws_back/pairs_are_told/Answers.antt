use Rattle.rx_walks.proofs.ForwardLaws.{pair_told}
use Rattle.rx_walks.proofs.laws_back.pairs_are_told.Goals as goal

pub returns : goal.returns
returns c = λ a b. pair_told a b
