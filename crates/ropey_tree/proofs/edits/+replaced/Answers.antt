use Rattle.std.proofs.Common.{◌≡◌, ◌+◌, ◌-◌, ◌≤◌, length, ap, ◌∙◌, arith}
use Rattle.std.specs.Str.{chars}
use Rattle.std.specs.List.{concat}
use Rattle.str_indices.specs.Text.{byte_len}
use Rattle.ropey_tree.specs.Counts.{total}
use Rattle.ropey_tree.specs.Siblings.{nodes_of}
use Rattle.ropey_tree.proofs.Joining.{joined_len}
use Rattle.ropey_tree.proofs.Texts.{total-one}
use Rattle.ropey_tree.proofs.Editing.{leaves_replace, of_piece, child_lower, child_fits, child_counted, of_child, row_siblings, row_replaces}
use Rattle.ropey_tree.proofs.edits.+replaced.Goals as goal

pub replaced-requires : goal.replaced-requires
replaced-requires t c =
    let v = c.args.node.now.value in
    let vs = c.in-Inner.children.now in
    let k = c.choose-choice.result.index in
    let child = c.get-child.result.now.value in
    let v_is = rw c.deref.ensures at c.in-Inner.ensures.0 in
    let inner = rw c.deref.ensures at c.in-Inner.ensures.1 in
    let before = ap (λ b. b.bytes) c.choose-choice.ensures.stands_before in
    let low = rw before at c.choose-choice.ensures.not_past in
    let within = c.choose-choice.ensures.within in
    let lower = child_lower v vs k child c.args.from c.args.to v_is inner within c.get-child.ensures low c.requires.1.1.0 c.choose-choice.ensures.passed in
    let counted = child_counted vs k child c.choose-choice.result.len c.get-child.ensures c.choose-choice.ensures.counted in
    let fits = child_fits v vs k child c.args.from c.args.to v_is inner within c.get-child.ensures low c.requires.1.1.0 c.choose-choice.ensures.passed (byte_len (chars c.args.text.now)) c.requires.1.1.1.1.0 in
    (omega (arith, c.requires.1.0, lower), (omega (arith, c.requires.1.1.0), (counted, (fits, c.requires.1.1.1.1.1))))

pub pack_with-requires-clause-nodes : goal.pack_with-requires-clause-nodes
pack_with-requires-clause-nodes t c =
    let v = c.args.node.now.value in
    let vs = c.in-Inner.children.now in
    let k = c.choose-choice.result.index in
    let child = c.get-child.result.now.value in
    let v_is = rw c.deref.ensures at c.in-Inner.ensures.0 in
    let inner = rw c.deref.ensures at c.in-Inner.ensures.1 in
    let before = ap (λ b. b.bytes) c.choose-choice.ensures.stands_before in
    let low = rw before at c.choose-choice.ensures.not_past in
    let h = rw (before, c.in-Some-2.is) at c.in_ok-replaced-in-Inner.ensures in
    let made = c.replaced.new.made.nodes - c.args.made.now.nodes in
    let len = joined_len c.in-Some-2.edited in
    let few : length vs ≤ 24 = omega (arith, ap (λ u. u.degree) v_is, c.height-height.ensures.few, ap (λ u. u.degree) c.deref-in-Some-2.ensures) in
    let is_text = rw c.deref-in-Some-2.ensures at c.height-height.ensures.tree.text in
    rw (c.height-height.ensures.value, c.deref-in-Some-2.ensures)
    (row_siblings v vs k child c.args.from c.args.to v_is inner c.choose-choice.ensures.within c.get-child.ensures low c.requires.1.1.0 c.choose-choice.ensures.passed
    (chars c.args.text.now) made (nodes_of c.in-Some-2.edited) len.0 len.1 h.edited few is_text c.requires.1.1.1.1.0)

pub returns-in_ok-nodes-in-Some-2-clause-edited : goal.returns-in_ok-nodes-in-Some-2-clause-edited
returns-in_ok-nodes-in-Some-2-clause-edited t c =
    let v = c.args.node.now.value in
    let vs = c.in-Inner.children.now in
    let k = c.choose-choice.result.index in
    let child = c.get-child.result.now.value in
    let v_is = rw c.deref.ensures at c.in-Inner.ensures.0 in
    let inner = rw c.deref.ensures at c.in-Inner.ensures.1 in
    let before = ap (λ b. b.bytes) c.choose-choice.ensures.stands_before in
    let low = rw before at c.choose-choice.ensures.not_past in
    let h = rw (before, c.in-Some-2.is) at c.in_ok-replaced-in-Inner.ensures in
    let made = c.replaced.new.made.nodes - c.args.made.now.nodes in
    let nodes = nodes_of c.in-Some-2.edited in
    let len = joined_len c.in-Some-2.edited in
    let few : length vs ≤ 24 = omega (arith, ap (λ u. u.degree) v_is, c.height-height.ensures.few, ap (λ u. u.degree) c.deref-in-Some-2.ensures) in
    let e = rw (c.height-height.ensures.value, c.deref-in-Some-2.ensures) at c.in_ok-nodes-in-Some-2.ensures in
    let count : c.pack_with.new.made.nodes - c.args.made.now.nodes ≡ made + length (nodes_of c.in_ok-nodes-in-Some-2.nodes) = omega (arith, c.in_ok-nodes-in-Some-2.ensures.made, c.replaced.ensures.least) in
    row_replaces v vs k child c.args.from c.args.to v_is inner c.choose-choice.ensures.within c.get-child.ensures low c.requires.1.1.0 c.choose-choice.ensures.passed
    (chars c.args.text.now) made nodes len.0 len.1 h.edited (nodes_of c.in_ok-nodes-in-Some-2.nodes) (c.pack_with.new.made.nodes - c.args.made.now.nodes) few e.packed e.one count (joined_len c.in_ok-nodes-in-Some-2.nodes).1

pub returns-in_ok-nodes-in-Some-clause-edited : goal.returns-in_ok-nodes-in-Some-clause-edited
returns-in_ok-nodes-in-Some-clause-edited t c =
    let v_is = rw c.deref.ensures at c.in-Leaf.ensures.0 in
    let e = rw c.in-Some.is at c.in_ok-with_text_replaced-in-Leaf.ensures in
    let made = c.in_ok-nodes-in-Some.ensures in
    leaves_replace c.args.node.now.value c.in-Leaf.leaf.now c.in-Some.leaves (nodes_of c.in_ok-nodes-in-Some.nodes) c.args.from c.args.to (chars c.args.text.now) (c.nodes_over.new.made.nodes - c.args.made.now.nodes) v_is
    made.nodes e.replaced e.may_stand (omega (arith, made.made))

pub returns-in-None-2-clause-none : goal.returns-in-None-2-clause-none
returns-in-None-2-clause-none t c = λ pieces h long.
    let v = c.args.node.now.value in
    let vs = c.in-Inner.children.now in
    let k = c.choose-choice.result.index in
    let child = c.get-child.result.now.value in
    let v_is = rw c.deref.ensures at c.in-Inner.ensures.0 in
    let inner = rw c.deref.ensures at c.in-Inner.ensures.1 in
    let before = ap (λ b. b.bytes) c.choose-choice.ensures.stands_before in
    let low = rw before at c.choose-choice.ensures.not_past in
    let none = rw (before, c.in-None-2.is) at c.in_ok-replaced-in-Inner.ensures in
    let of = of_child v vs k child c.args.from c.args.to v_is inner c.choose-choice.ensures.within c.get-child.ensures low c.requires.1.1.0 c.choose-choice.ensures.passed (chars c.args.text.now) pieces h in
    let same = ap (λ leaves. byte_len (concat leaves)) of.same in
    omega (arith, none.none of.pieces of.edited (omega (arith, long, same)), same)

pub returns-in-None-clause-none : goal.returns-in-None-clause-none
returns-in-None-clause-none t c = λ pieces h long.
    let v_is = rw c.deref.ensures at c.in-Leaf.ensures.0 in
    let none = rw c.in-None.is at c.in_ok-with_text_replaced-in-Leaf.ensures in
    let of = of_piece c.args.node.now.value c.in-Leaf.leaf.now c.args.from c.args.to (chars c.args.text.now) pieces v_is h in
    none.none h.leaves of.replaced of.may_stand (omega (arith, long, c.least_kept-least.ensures.few))

pub with_text_replaced-requires-clause-counted : goal.with_text_replaced-requires-clause-counted
with_text_replaced-requires-clause-counted t c =
    let v_is = rw c.deref.ensures at c.in-Leaf.ensures.0 in
    c.requires.1.1.1.0 ∙ ap (λ v. total v.pieces) v_is ∙ total-one c.in-Leaf.leaf.now
