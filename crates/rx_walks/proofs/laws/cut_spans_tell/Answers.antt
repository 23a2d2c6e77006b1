use Rattle.rx_walks.proofs.CutLaws.{cut_spans_tell}
use Rattle.rx_walks.proofs.laws.cut_spans_tell.Goals as goal

pub returns : goal.returns
returns g c = λ member is_word p s i t within finds. cut_spans_tell member is_word p s i t within finds
