use Rattle.rx_walks.proofs.BoundaryLaws.{finds_stand_at_boundaries}
use Rattle.rx_walks.proofs.laws.finds_at_boundaries.Goals as goal

pub returns : goal.returns
returns c = λ w member is_word p s t utf8 on finds. finds_stand_at_boundaries member is_word p s utf8 on t finds
