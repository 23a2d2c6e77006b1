use Rattle.rx_walks.proofs.MatchLaws.{program_first_matches}
use Rattle.rx_walks.proofs.laws.first_matches_grow.Goals as goal

pub returns : goal.returns
returns c = λ w member is_word p s. program_first_matches member is_word p s
