use Rattle.rx_walks.proofs.BoundaryLaws.{matches_stand_at_boundaries}
use Rattle.rx_walks.proofs.laws.matches_at_boundaries.Goals as goal

pub returns : goal.returns
returns c = λ w member is_word p s ms utf8 on is. matches_stand_at_boundaries member is_word p s ms utf8 on is
