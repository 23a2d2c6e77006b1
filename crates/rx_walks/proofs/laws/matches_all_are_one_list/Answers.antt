use Rattle.rx_walks.proofs.UniqueLaws.{program_matches_all_unique}
use Rattle.rx_walks.proofs.laws.matches_all_are_one_list.Goals as goal

pub returns : goal.returns
returns c = λ w member is_word p s ms ms' is is'. program_matches_all_unique member is_word p s ms ms' is is'
