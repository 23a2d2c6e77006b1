use Rattle.rx_walks.proofs.MatchAllLaws.{matches_all_stand_at_boundaries}
use Rattle.rx_walks.proofs.laws_all.matches_all_at_boundaries.Goals as goal

pub returns : goal.returns
returns c = λ w member is_word p s ms utf8 on is. matches_all_stand_at_boundaries member is_word p s ms utf8 on is
