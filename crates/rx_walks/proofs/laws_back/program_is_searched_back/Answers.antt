use Rattle.rx_walks.proofs.SearchedLaws.{program_is_searched_back}
use Rattle.rx_walks.proofs.laws_back.program_is_searched_back.Goals as goal

pub returns : goal.returns
returns g c = λ member is_word p step above members s fits keeps. program_is_searched_back member is_word p step above members s fits keeps
