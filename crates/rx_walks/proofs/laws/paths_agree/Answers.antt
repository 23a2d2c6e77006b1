use Rattle.rx_walks.proofs.AllFindLaws.{paths_agree}
use Rattle.rx_walks.proofs.laws.paths_agree.Goals as goal

pub returns : goal.returns
returns c = λ w cm bm f same in_c in_b n q i p e. paths_agree q i p e same in_c in_b n
