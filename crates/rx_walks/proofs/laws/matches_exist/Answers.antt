use Rattle.rx_walks.proofs.MatchLaws.{program_matches_exist}
use Rattle.rx_walks.proofs.laws.matches_exist.Goals as goal

pub returns : goal.returns
returns c = λ w member is_word p s. program_matches_exist member is_word p s
