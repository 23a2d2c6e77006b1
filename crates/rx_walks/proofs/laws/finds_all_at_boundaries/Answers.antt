use Rattle.rx_walks.proofs.BoundaryLaws.{finds_all_stand_at_boundaries}
use Rattle.rx_walks.proofs.laws.finds_all_at_boundaries.Goals as goal

pub returns : goal.returns
returns c = λ w member is_word p s a utf8 on finds. finds_all_stand_at_boundaries member is_word p s utf8 on a finds
