use Rattle.rx_walks.proofs.FindBackLaws.{nothing_is_found_outside}
use Rattle.rx_walks.proofs.laws_back.nothing_is_found_outside.Goals as goal

pub returns : goal.returns
returns g c = λ member is_word p s outside. nothing_is_found_outside member is_word p s outside
