use Rattle.rx_walks.proofs.CutLaws.{finds_stay_in_cut_spans}
use Rattle.rx_walks.proofs.laws.finds_stay_in_cut_spans.Goals as goal

pub returns : goal.returns
returns g c = λ member is_word p s t finds. finds_stay_in_cut_spans member is_word p s t finds
