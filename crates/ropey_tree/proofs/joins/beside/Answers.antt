use Rattle.std.proofs.Common.{arith}
use Rattle.ropey_tree.specs.Siblings.{nodes_of}
use Rattle.ropey_tree.proofs.Joining.{leaves_joined, beside_siblings, beside_joined}
use Rattle.ropey_tree.proofs.joins.beside.Goals as goal

pub pack_both-requires : goal.pack_both-requires
pack_both-requires c =
    let l_is = rw c.deref.ensures at c.in-Inner.ensures.0 in
    let front = rw c.deref.ensures at c.in-Inner.ensures.1 in
    let r_is = rw c.deref-in-Inner.ensures at c.in-Inner-parts-2.ensures.0 in
    let back = rw c.deref-in-Inner.ensures at c.in-Inner-parts-2.ensures.1 in
    rw (c.height.ensures.value, c.deref-in-Inner-2.ensures)
    (beside_siblings c.args.left.now.value c.args.right.now.value c.requires.text c.in-Inner.front.now c.in-Inner-parts-2.back.now l_is front r_is back c.requires.level
    (omega (arith, c.len.ensures.value, c.len.ensures.fits)) (omega (arith, c.len-in-Inner.ensures.value, c.len-in-Inner.ensures.fits)))

pub returns-in_ok-joined-in-Inner-clause-joined : goal.returns-in_ok-joined-in-Inner-clause-joined
returns-in_ok-joined-in-Inner-clause-joined c =
    let l_is = rw c.deref.ensures at c.in-Inner.ensures.0 in
    let front = rw c.deref.ensures at c.in-Inner.ensures.1 in
    let r_is = rw c.deref-in-Inner.ensures at c.in-Inner-parts-2.ensures.0 in
    let back = rw c.deref-in-Inner.ensures at c.in-Inner-parts-2.ensures.1 in
    let packed = rw (c.height.ensures.value, c.deref-in-Inner-2.ensures) at c.in_ok-joined-in-Inner.ensures.packed in
    beside_joined c.args.left.now.value c.args.right.now.value c.requires.text c.in-Inner.front.now c.in-Inner-parts-2.back.now l_is front r_is back c.requires.level
    (nodes_of c.in_ok-joined-in-Inner.joined) packed

pub returns-in_ok-second-in-Leaf-parts-clause-joined : goal.returns-in_ok-second-in-Leaf-parts-clause-joined
returns-in_ok-second-in-Leaf-parts-clause-joined c =
    let l_is = rw c.deref.ensures at c.in-Leaf.ensures.0 in
    let r_is = rw c.deref-in-Leaf.ensures at c.in-Leaf-parts.ensures.0 in
    rw (c.in_ok-first-in-Leaf-parts.ensures.cases, c.in_ok-second-in-Leaf-parts.ensures.cases)
    (leaves_joined c.args.left.now.value c.args.right.now.value c.in-Leaf.field-0.now c.in-Leaf-parts.field-0.now l_is r_is)
