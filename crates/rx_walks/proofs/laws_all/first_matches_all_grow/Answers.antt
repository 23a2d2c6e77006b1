use Rattle.rx_walks.proofs.MatchAllLaws.{program_first_matches_all}
use Rattle.rx_walks.proofs.laws_all.first_matches_all_grow.Goals as goal

pub returns : goal.returns
returns c = λ w member is_word p s. program_first_matches_all member is_word p s
