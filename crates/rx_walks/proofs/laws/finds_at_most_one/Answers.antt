use Rattle.rx_walks.proofs.UniqueLaws.{program_find_unique}
use Rattle.rx_walks.proofs.laws.finds_at_most_one.Goals as goal

pub returns : goal.returns
returns c = λ w member is_word p s out out' is is'. program_find_unique member is_word p s out out' is is'
