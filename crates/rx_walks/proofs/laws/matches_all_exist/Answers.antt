use Rattle.rx_walks.proofs.AllExistLaws.{program_matches_all_exist}
use Rattle.rx_walks.proofs.laws.matches_all_exist.Goals as goal

pub returns : goal.returns
returns c = λ w member is_word p s. program_matches_all_exist member is_word p s
