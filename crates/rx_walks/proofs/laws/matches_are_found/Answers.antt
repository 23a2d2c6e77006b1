use Rattle.rx_walks.proofs.MatchLaws.{program_matches_found}
use Rattle.rx_walks.proofs.laws.matches_are_found.Goals as goal

pub returns : goal.returns
returns c = λ w member is_word p s ms is. program_matches_found member is_word p s ms is
