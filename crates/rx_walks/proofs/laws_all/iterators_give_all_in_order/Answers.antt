use Rattle.rx_walks.proofs.IterAllLaws.{iterators_give_all_in_order}
use Rattle.rx_walks.proofs.laws_all.iterators_give_all_in_order.Goals as goal

pub returns : goal.returns
returns g c = λ member is_word p item_of left. iterators_give_all_in_order member is_word p item_of left g.I.Iterator.next_gives
