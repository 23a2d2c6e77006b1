use Rattle.rx_walks.proofs.MatchAllLaws.{finds_agree}
use Rattle.rx_walks.proofs.laws_all.finds_agree.Goals as goal

pub returns : goal.returns
returns c = λ w member is_word p s. finds_agree member is_word p s
