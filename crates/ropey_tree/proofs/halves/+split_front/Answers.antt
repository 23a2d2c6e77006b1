use Rattle.std.proofs.Common.{◌≡◌, ◌∷◌, ◌+◌, ◌++◌, [], drop, ap, ◌∙◌, arith}
use Rattle.std.proofs.lemmas.List.Sums.{sum_by-cons}
use Rattle.str_indices.specs.Text.{byte_len}
use Rattle.ropey_tree.specs.Counts.{total}
use Rattle.ropey_tree.specs.Nodes.{all_pieces}
use Rattle.ropey_tree.specs.Splits.{pieces_in}
use Rattle.ropey_tree.proofs.Splitting.{boundary-le, child_boundary, child_falls, node_split, node_split_left, split_start, split_end}
use Rattle.ropey_tree.proofs.halves.+split_front.Goals as goal

pub returns-then-at-eq0-clause-front : goal.returns-then-at-eq0-clause-front
returns-then-at-eq0-clause-front t c = rw c.if-at-eq0.true record { rest = c.args.node.now.value.pieces; split = split_start c.args.node.now.value.pieces }

pub returns-then-at-counts-clause-front : goal.returns-then-at-counts-clause-front
returns-then-at-counts-clause-front t c =
    let end = c.if-at-counts.true ∙ ap (λ k. k.bytes) c.counts.ensures ∙ ap (λ v. (total v.pieces).bytes) c.deref-2.ensures in
    rw c.in_ok-whole.ensures.cases record { rest = []; split = split_end c.args.node.now.value.pieces c.args.at end }

pub leaf_before-requires-clause-more : goal.leaf_before-requires-clause-more
leaf_before-requires-clause-more t c =
    let v = c.args.node.now.value in
    let v_is = rw c.deref-3.ensures at c.in-Leaf.ensures in
    let bytes : c.counts.result.bytes ≡ (total v.pieces).bytes = ap (λ k. k.bytes) c.counts.ensures ∙ ap (λ w. (total w.pieces).bytes) c.deref-2.ensures in
    let whole : (total v.pieces).bytes ≡ (total (c.in-Leaf.leaf.now ∷ [])).bytes = ap (λ w. (total w.pieces).bytes) v_is.0 in
    omega (arith, bytes, whole, sum_by-cons byte_len c.in-Leaf.leaf.now [], boundary-le v.pieces c.args.at c.requires, c.if-at-counts.false)

pub split_front-requires : goal.split_front-requires
split_front-requires t c =
    let v = c.args.node.now.value in
    let v_is = rw c.deref-3.ensures at c.in-Inner.ensures.0 in
    let inner = rw c.deref-3.ensures at c.in-Inner.ensures.1 in
    let text = rw c.deref.ensures at c.height-height.ensures.tree.text in
    let before = ap (λ b. b.bytes) c.choose-choice.ensures.stands_before in
    let low = rw before at c.choose-choice.ensures.not_past in
    (omega (arith, c.decreases, child_falls v c.in-Inner.children.now c.choose-choice.result.index c.get-child.result.now.value c.args.at v_is inner text c.choose-choice.ensures.within c.get-child.ensures c.requires low c.choose-choice.ensures.passed), rw before (child_boundary v c.in-Inner.children.now c.choose-choice.result.index c.get-child.result.now.value c.args.at v_is inner text c.choose-choice.ensures.within c.get-child.ensures c.requires low c.choose-choice.ensures.passed))

pub concat-requires : goal.concat-requires
concat-requires t c =
    let v = c.args.node.now.value in
    let v_is = rw c.deref-3.ensures at c.in-Inner.ensures.0 in
    let inner = rw c.deref-3.ensures at c.in-Inner.ensures.1 in
    let text = rw c.deref.ensures at c.height-height.ensures.tree.text in
    let before = ap (λ b. b.bytes) c.choose-choice.ensures.stands_before in
    let low = rw before at c.choose-choice.ensures.not_past in
    let half = c.in_ok-half-in-Inner.ensures.front in
    let split = rw before at half.split in
    rw c.in_ok-before-in-Inner.ensures (node_split_left v c.in-Inner.children.now c.choose-choice.result.index c.get-child.result.now.value c.args.at v_is inner text c.choose-choice.ensures.within c.get-child.ensures c.requires low c.choose-choice.ensures.passed (pieces_in c.in_ok-half-in-Inner.half) half.rest split)

pub returns-in_ok-front-in-Inner-clause-front : goal.returns-in_ok-front-in-Inner-clause-front
returns-in_ok-front-in-Inner-clause-front t c =
    let v = c.args.node.now.value in
    let v_is = rw c.deref-3.ensures at c.in-Inner.ensures.0 in
    let inner = rw c.deref-3.ensures at c.in-Inner.ensures.1 in
    let text = rw c.deref.ensures at c.height-height.ensures.tree.text in
    let before = ap (λ b. b.bytes) c.choose-choice.ensures.stands_before in
    let low = rw before at c.choose-choice.ensures.not_past in
    let half = c.in_ok-half-in-Inner.ensures.front in
    let split = rw before at half.split in
    let front = c.in_ok-front-in-Inner.ensures ∙ ap (λ ps. ps ++ pieces_in c.in_ok-half-in-Inner.half) c.in_ok-before-in-Inner.ensures in
    record {
      rest = half.rest ++ all_pieces (drop (c.choose-choice.result.index + 1) c.in-Inner.children.now);
      split = rw front (node_split v c.in-Inner.children.now c.choose-choice.result.index c.get-child.result.now.value c.args.at v_is inner text c.choose-choice.ensures.within c.get-child.ensures c.requires low c.choose-choice.ensures.passed (pieces_in c.in_ok-half-in-Inner.half) half.rest split);
    }
