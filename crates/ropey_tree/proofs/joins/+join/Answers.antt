use Rattle.std.proofs.Common.{arith, ◌-◌, ◌<◌}
use Rattle.ropey_tree.specs.Siblings.{nodes_of}
use Rattle.ropey_tree.proofs.Joining.{row-last, left_text, left_falls, left_siblings, left_joined, right_text, right_falls, right_siblings, right_joined}
use Rattle.ropey_tree.proofs.joins.+join.Goals as goal

pub join-requires : goal.join-requires
join-requires t c =
    let l = c.args.left.now.value in
    let r = c.args.right.now.value in
    let l_is = rw c.deref-then-l-r-2.ensures at c.in-Inner.ensures.0 in
    let inner = rw c.deref-then-l-r-2.ensures at c.in-Inner.ensures.1 in
    let is = rw c.len-end.ensures.value at c.get.ensures in
    let lower = rw (c.height-l.ensures.value, c.height-r.ensures.value, c.deref.ensures, c.deref-2.ensures) at c.if-l-r-2.true in (
      omega (arith, c.decreases, left_falls l r c.requires c.in-Inner.front.now c.get.result.now.value l_is inner is lower),
      left_text l r c.requires c.in-Inner.front.now c.get.result.now.value l_is inner is lower,
    )

pub pack_with-requires-clause-nodes : goal.pack_with-requires-clause-nodes
pack_with-requires-clause-nodes t c =
    let l = c.args.left.now.value in
    let r = c.args.right.now.value in
    let l_is = rw c.deref-then-l-r-2.ensures at c.in-Inner.ensures.0 in
    let inner = rw c.deref-then-l-r-2.ensures at c.in-Inner.ensures.1 in
    let is = rw c.len-end.ensures.value at c.get.ensures in
    let lower = rw (c.height-l.ensures.value, c.height-r.ensures.value, c.deref.ensures, c.deref-2.ensures) at c.if-l-r-2.true in
    let row = row-last c.in-Inner.front.now (nodes_of c.in_ok-last.last) (c.len-end.result - 1) (omega (arith, inner.branches)) (omega (arith, c.len-end.ensures.value)) in
    rw (c.height-l.ensures.value, c.deref.ensures, row)
    (left_siblings l r c.requires c.in-Inner.front.now c.get.result.now.value l_is inner is lower c.in_ok-last.last (omega (arith, c.len-end.ensures.value, c.len-end.ensures.fits)) c.in_ok-last.ensures.joined)

pub returns-in_ok-joined-2-clause-joined : goal.returns-in_ok-joined-2-clause-joined
returns-in_ok-joined-2-clause-joined t c =
    let l = c.args.left.now.value in
    let r = c.args.right.now.value in
    let l_is = rw c.deref-then-l-r-2.ensures at c.in-Inner.ensures.0 in
    let inner = rw c.deref-then-l-r-2.ensures at c.in-Inner.ensures.1 in
    let is = rw c.len-end.ensures.value at c.get.ensures in
    let lower = rw (c.height-l.ensures.value, c.height-r.ensures.value, c.deref.ensures, c.deref-2.ensures) at c.if-l-r-2.true in
    let row = row-last c.in-Inner.front.now (nodes_of c.in_ok-last.last) (c.len-end.result - 1) (omega (arith, inner.branches)) (omega (arith, c.len-end.ensures.value)) in
    let packed = rw (c.height-l.ensures.value, c.deref.ensures, row) at c.in_ok-joined-2.ensures.packed in
    left_joined l r c.requires c.in-Inner.front.now c.get.result.now.value l_is inner is lower c.in_ok-last.last (nodes_of c.in_ok-joined-2.joined) c.in_ok-last.ensures.joined packed

pub join-requires-else-l-r-2 : goal.join-requires-else-l-r-2
join-requires-else-l-r-2 t c =
    let l = c.args.left.now.value in
    let r = c.args.right.now.value in
    let r_is = rw c.deref-else-l-r-2.ensures at c.in-Inner-parts.ensures.0 in
    let inner = rw c.deref-else-l-r-2.ensures at c.in-Inner-parts.ensures.1 in
    let heights : c.height-l.result < c.height-r.result = omega (arith, c.if-l-r.false, c.if-l-r-2.false) in
    let lower = rw (c.height-l.ensures.value, c.height-r.ensures.value, c.deref.ensures, c.deref-2.ensures) at heights in
    (omega (arith, c.decreases, right_falls l r c.requires c.in-Inner-parts.back.now c.get-else-l-r-2.result.now.value r_is inner c.get-else-l-r-2.ensures lower), right_text l r c.requires c.in-Inner-parts.back.now c.get-else-l-r-2.result.now.value r_is inner c.get-else-l-r-2.ensures lower)

pub pack_with-requires-else-l-r-2-clause-nodes : goal.pack_with-requires-else-l-r-2-clause-nodes
pack_with-requires-else-l-r-2-clause-nodes t c =
    let l = c.args.left.now.value in
    let r = c.args.right.now.value in
    let r_is = rw c.deref-else-l-r-2.ensures at c.in-Inner-parts.ensures.0 in
    let inner = rw c.deref-else-l-r-2.ensures at c.in-Inner-parts.ensures.1 in
    let heights : c.height-l.result < c.height-r.result = omega (arith, c.if-l-r.false, c.if-l-r-2.false) in
    let lower = rw (c.height-l.ensures.value, c.height-r.ensures.value, c.deref.ensures, c.deref-2.ensures) at heights in
    rw (c.height-r.ensures.value, c.deref-2.ensures)
    (right_siblings l r c.requires c.in-Inner-parts.back.now c.get-else-l-r-2.result.now.value r_is inner c.get-else-l-r-2.ensures lower c.in_ok-first.first (omega (arith, c.len.ensures.value, c.len.ensures.fits)) c.in_ok-first.ensures.joined)

pub returns-in_ok-joined-3-clause-joined : goal.returns-in_ok-joined-3-clause-joined
returns-in_ok-joined-3-clause-joined t c =
    let l = c.args.left.now.value in
    let r = c.args.right.now.value in
    let r_is = rw c.deref-else-l-r-2.ensures at c.in-Inner-parts.ensures.0 in
    let inner = rw c.deref-else-l-r-2.ensures at c.in-Inner-parts.ensures.1 in
    let heights : c.height-l.result < c.height-r.result = omega (arith, c.if-l-r.false, c.if-l-r-2.false) in
    let lower = rw (c.height-l.ensures.value, c.height-r.ensures.value, c.deref.ensures, c.deref-2.ensures) at heights in
    let packed = rw (c.height-r.ensures.value, c.deref-2.ensures) at c.in_ok-joined-3.ensures.packed in
    right_joined l r c.requires c.in-Inner-parts.back.now c.get-else-l-r-2.result.now.value r_is inner c.get-else-l-r-2.ensures lower c.in_ok-first.first (nodes_of c.in_ok-joined-3.joined) c.in_ok-first.ensures.joined packed
