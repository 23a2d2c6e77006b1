use Rattle.rx_walks.proofs.UniqueLaws.{program_find_all_unique}
use Rattle.rx_walks.proofs.laws.finds_all_at_most_one.Goals as goal

pub returns : goal.returns
returns c = λ w member is_word p s out out' is is'. program_find_all_unique member is_word p s out out' is is'
