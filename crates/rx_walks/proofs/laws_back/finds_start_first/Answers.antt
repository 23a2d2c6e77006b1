use Rattle.rx_walks.proofs.FindBackLaws.{starts_first}
use Rattle.rx_walks.proofs.laws_back.finds_start_first.Goals as goal

pub returns : goal.returns
returns g c = λ member is_word p s q starts. starts_first member is_word p s q starts
