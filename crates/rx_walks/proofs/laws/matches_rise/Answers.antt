use Rattle.rx_walks.proofs.MatchLaws.{program_matches_rise}
use Rattle.rx_walks.proofs.laws.matches_rise.Goals as goal

pub returns : goal.returns
returns c = λ w member is_word p s ms is. program_matches_rise member is_word p s ms is
