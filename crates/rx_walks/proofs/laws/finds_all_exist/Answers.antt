use Rattle.rx_walks.proofs.AllExistLaws.{program_find_all_exists}
use Rattle.rx_walks.proofs.laws.finds_all_exist.Goals as goal

pub returns : goal.returns
returns c = λ w member is_word p s. program_find_all_exists member is_word p s
