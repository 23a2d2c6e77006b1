use Rattle.rx_walks.proofs.InsideLaws.{finds_all_lie_inside}
use Rattle.rx_walks.proofs.laws.finds_all_lie_inside.Goals as goal

pub returns : goal.returns
returns g c = λ member is_word p s a finds. finds_all_lie_inside member is_word p s a finds
