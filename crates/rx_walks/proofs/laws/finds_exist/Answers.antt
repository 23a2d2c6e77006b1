use Rattle.rx_walks.proofs.ExistLaws.{program_find_exists}
use Rattle.rx_walks.proofs.laws.finds_exist.Goals as goal

pub returns : goal.returns
returns c = λ w member is_word p s. program_find_exists member is_word p s
