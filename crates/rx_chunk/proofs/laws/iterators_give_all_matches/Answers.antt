use Rattle.rx_chunk.proofs.OrderLaws.{in_order}
use Rattle.rx_chunk.proofs.laws.iterators_give_all_matches.Goals as goal

pub returns : goal.returns
returns g c = λ item_of left e steps s m stands. in_order e s item_of left g.I.Iterator.next_gives (λ n. Unit {0}) (λ a b item of step. (tt, steps a b item step)) m tt stands
