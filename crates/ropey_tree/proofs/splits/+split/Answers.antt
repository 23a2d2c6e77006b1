use Rattle.std.proofs.Common.{◌++◌, ap, ◌∙◌, arith}
use Rattle.ropey_tree.specs.Splits.{pieces_in}
use Rattle.ropey_tree.proofs.Splitting.{child_boundary, child_falls, node_split, node_split_left, node_split_right, rest_pieces}
use Rattle.ropey_tree.proofs.splits.+split.Goals as goal

pub split-requires : goal.split-requires
split-requires t c =
    let v = c.args.node.now.value in
    let v_is = rw c.deref-2.ensures at c.in-Inner.ensures.0 in
    let inner = rw c.deref-2.ensures at c.in-Inner.ensures.1 in
    let text = rw c.deref.ensures at c.height-height.ensures.tree.text in
    let before = ap (λ b. b.bytes) c.choose-choice.ensures.stands_before in
    let low = rw before at c.choose-choice.ensures.not_past in
    (omega (arith, c.decreases, child_falls v c.in-Inner.children.now c.choose-choice.result.index c.get-child.result.now.value c.args.at v_is inner text c.choose-choice.ensures.within c.get-child.ensures c.requires low c.choose-choice.ensures.passed), rw before (child_boundary v c.in-Inner.children.now c.choose-choice.result.index c.get-child.result.now.value c.args.at v_is inner text c.choose-choice.ensures.within c.get-child.ensures c.requires low c.choose-choice.ensures.passed))

pub concat-requires : goal.concat-requires
concat-requires t c =
    let v = c.args.node.now.value in
    let v_is = rw c.deref-2.ensures at c.in-Inner.ensures.0 in
    let inner = rw c.deref-2.ensures at c.in-Inner.ensures.1 in
    let text = rw c.deref.ensures at c.height-height.ensures.tree.text in
    let before = ap (λ b. b.bytes) c.choose-choice.ensures.stands_before in
    let low = rw before at c.choose-choice.ensures.not_past in
    let halves = rw before at c.in_ok-halves-in-Inner.ensures.halves in
    let l = pieces_in c.in_ok-halves-in-Inner.halves.left in
    let r = pieces_in c.in_ok-halves-in-Inner.halves.right in
    rw c.in_ok-front-in-Inner.ensures (node_split_left v c.in-Inner.children.now c.choose-choice.result.index c.get-child.result.now.value c.args.at v_is inner text c.choose-choice.ensures.within c.get-child.ensures c.requires low c.choose-choice.ensures.passed l r halves)

pub concat-requires-in-Inner : goal.concat-requires-in-Inner
concat-requires-in-Inner t c =
    let v = c.args.node.now.value in
    let v_is = rw c.deref-2.ensures at c.in-Inner.ensures.0 in
    let inner = rw c.deref-2.ensures at c.in-Inner.ensures.1 in
    let text = rw c.deref.ensures at c.height-height.ensures.tree.text in
    let before = ap (λ b. b.bytes) c.choose-choice.ensures.stands_before in
    let low = rw before at c.choose-choice.ensures.not_past in
    let halves = rw before at c.in_ok-halves-in-Inner.ensures.halves in
    let l = pieces_in c.in_ok-halves-in-Inner.halves.left in
    let r = pieces_in c.in_ok-halves-in-Inner.halves.right in
    let rest = rest_pieces v c.in-Inner.children.now c.choose-choice.result.index c.get-child.result.now.value c.args.at v_is inner text c.choose-choice.ensures.within c.get-child.ensures c.requires low c.choose-choice.ensures.passed c.len-len.result (pieces_in c.in_ok-back-in-Inner.back) c.len-len.ensures.value c.in_ok-back-in-Inner.ensures in
    rw rest (node_split_right v c.in-Inner.children.now c.choose-choice.result.index c.get-child.result.now.value c.args.at v_is inner text c.choose-choice.ensures.within c.get-child.ensures c.requires low c.choose-choice.ensures.passed l r halves)

pub returns-in_ok-right-in-Inner-clause-halves : goal.returns-in_ok-right-in-Inner-clause-halves
returns-in_ok-right-in-Inner-clause-halves t c =
    let v = c.args.node.now.value in
    let v_is = rw c.deref-2.ensures at c.in-Inner.ensures.0 in
    let inner = rw c.deref-2.ensures at c.in-Inner.ensures.1 in
    let text = rw c.deref.ensures at c.height-height.ensures.tree.text in
    let before = ap (λ b. b.bytes) c.choose-choice.ensures.stands_before in
    let low = rw before at c.choose-choice.ensures.not_past in
    let halves = rw before at c.in_ok-halves-in-Inner.ensures.halves in
    let l = pieces_in c.in_ok-halves-in-Inner.halves.left in
    let r = pieces_in c.in_ok-halves-in-Inner.halves.right in
    let rest = rest_pieces v c.in-Inner.children.now c.choose-choice.result.index c.get-child.result.now.value c.args.at v_is inner text c.choose-choice.ensures.within c.get-child.ensures c.requires low c.choose-choice.ensures.passed c.len-len.result (pieces_in c.in_ok-back-in-Inner.back) c.len-len.ensures.value c.in_ok-back-in-Inner.ensures in
    let left = c.in_ok-left-in-Inner.ensures ∙ ap (λ ps. ps ++ l) c.in_ok-front-in-Inner.ensures in
    let right = c.in_ok-right-in-Inner.ensures ∙ ap (λ ps. r ++ ps) rest in
    rw (left, right) (node_split v c.in-Inner.children.now c.choose-choice.result.index c.get-child.result.now.value c.args.at v_is inner text c.choose-choice.ensures.within c.get-child.ensures c.requires low c.choose-choice.ensures.passed l r halves)
