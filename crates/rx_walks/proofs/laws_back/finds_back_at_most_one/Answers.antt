use Rattle.rx_walks.proofs.BackLaws.{program_find_back_unique}
use Rattle.rx_walks.proofs.laws_back.finds_back_at_most_one.Goals as goal

pub returns : goal.returns
returns g c = λ member is_word p s out out' is is'. program_find_back_unique member is_word p s out out' is is'
