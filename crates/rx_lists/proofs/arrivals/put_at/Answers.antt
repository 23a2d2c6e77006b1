use Rattle.std.proofs.Common.{◌∷◌, [], set, subst, arith}
use Rattle.rx_lists.specs.Arrivals.{AreTold, nodes_in}
use Rattle.rx_lists.proofs.ArrivalLaws.{told_put}
use Rattle.rx_lists.proofs.arrivals.put_at.Goals as goal

pub returns-in_ok-push : goal.returns-in_ok-push
returns-in_ok-push c =
    let at = c.as_usize-then-as_usize-len.result in
    subst (λ on. AreTold c.args.from (on ∷ []) (nodes_in c.args.lists.now.items) (nodes_in (set c.args.lists.now.items at c.push.new.self))) c.as_usize-then-as_usize-len.ensures
    (told_put c.args.lists.now.items at c.args.from c.index_mut.result.now c.push.new.self (omega arith) c.index_mut.ensures.value c.in_ok-push.ensures.items)
