use Rattle.rx_walks.proofs.FindBackLaws.{finds_start_back}
use Rattle.rx_walks.proofs.laws_back.finds_start_back.Goals as goal

pub returns : goal.returns
returns g c = λ member is_word p s t out found back. finds_start_back member is_word p s t out found back
