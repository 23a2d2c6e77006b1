-- Laws of the crates below, in the form in which proofs here use them.
use Rattle.rx_walks.proofs.CutLaws.{finds_stay_in_cut_spans}
use Rattle.rx_walks.proofs.ExistLaws.{program_find_exists}
use Rattle.rx_walks.proofs.InsideLaws.{finds_lie_inside}
use Rattle.rx_walks.proofs.UniqueLaws.{program_find_unique}
use Rattle.regex_cursor.proofs.StrategyLaws.{CutLaw, ExistLaw, InsideLaw, OneLaw}

pub inside_law : InsideLaw
inside_law member is_word p s t finds = finds_lie_inside member is_word p s t finds

pub one_law : OneLaw
one_law member is_word p s out out' is is' = program_find_unique member is_word p s out out' is is'

pub exist_law : ExistLaw
exist_law member is_word p s = program_find_exists member is_word p s

pub cut_law : CutLaw
cut_law member is_word p s t finds = finds_stay_in_cut_spans member is_word p s t finds
