use Rattle.std.proofs.Common.{◌∷◌, [], sym, subst}
use Rattle.rx_steps.proofs.FollowLaws.{on_ok}
use Rattle.rx_lists.specs.Arrivals.{AreTold, edges_of, nodes_in}
use Rattle.rx_lists.proofs.ArrivalLaws.{told_more}
use Rattle.rx_lists.proofs.arrivals.put_edges.Goals as goal

pub returns-in_ok-put_at-in-BinaryUnion : goal.returns-in_ok-put_at-in-BinaryUnion
returns-in_ok-put_at-in-BinaryUnion c =
    let old = nodes_in c.args.lists.now.items in
    let mid = nodes_in c.put_at-in-BinaryUnion.new.lists.items in
    let new = nodes_in c.put_at-in-BinaryUnion-2.new.lists.items in
    on_ok c.put_at-in-BinaryUnion-2.result (λ two. subst (λ x. AreTold c.args.from (edges_of x) old new) (sym c.in-BinaryUnion.is)
    (told_more c.args.from (c.in-BinaryUnion.first ∷ []) c.in-BinaryUnion.second old mid new c.in_ok-put_at-in-BinaryUnion.ensures two)) c.put_at-in-BinaryUnion-2.ensures
