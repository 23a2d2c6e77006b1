use Rattle.rx_walks.proofs.FindBackLaws.{finds_match_back}
use Rattle.rx_walks.proofs.laws_back.finds_match_back.Goals as goal

pub returns : goal.returns
returns g c = λ member is_word p above s keeps t out found back. finds_match_back member is_word p s above keeps t out found back
