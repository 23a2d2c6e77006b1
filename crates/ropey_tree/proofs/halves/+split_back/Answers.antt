use Rattle.std.proofs.Common.{◌≡◌, ◌∷◌, ◌++◌, [], take, ap, ◌∙◌, arith}
use Rattle.std.proofs.lemmas.List.Sums.{sum_by-cons}
use Rattle.str_indices.specs.Text.{byte_len}
use Rattle.ropey_tree.specs.Counts.{total}
use Rattle.ropey_tree.specs.Nodes.{all_pieces}
use Rattle.ropey_tree.specs.Splits.{pieces_in}
use Rattle.ropey_tree.proofs.Splitting.{boundary-le, child_boundary, child_falls, node_split, node_split_right, rest_pieces, split_start, split_end}
use Rattle.ropey_tree.proofs.halves.+split_back.Goals as goal

pub returns-then-at-eq0-clause-back : goal.returns-then-at-eq0-clause-back
returns-then-at-eq0-clause-back t c = rw (c.if-at-eq0.true, c.in_ok-whole.ensures.cases) record { front = []; split = split_start c.args.node.now.value.pieces }

pub returns-then-at-counts-clause-back : goal.returns-then-at-counts-clause-back
returns-then-at-counts-clause-back t c =
    let end = c.if-at-counts.true ∙ ap (λ k. k.bytes) c.counts.ensures ∙ ap (λ v. (total v.pieces).bytes) c.deref-2.ensures in
    record { front = c.args.node.now.value.pieces; split = split_end c.args.node.now.value.pieces c.args.at end }

pub leaf_behind-requires-clause-more : goal.leaf_behind-requires-clause-more
leaf_behind-requires-clause-more t c =
    let v = c.args.node.now.value in
    let v_is = rw c.deref-3.ensures at c.in-Leaf.ensures in
    let bytes : c.counts.result.bytes ≡ (total v.pieces).bytes = ap (λ k. k.bytes) c.counts.ensures ∙ ap (λ w. (total w.pieces).bytes) c.deref-2.ensures in
    let whole : (total v.pieces).bytes ≡ (total (c.in-Leaf.leaf.now ∷ [])).bytes = ap (λ w. (total w.pieces).bytes) v_is.0 in
    omega (arith, bytes, whole, sum_by-cons byte_len c.in-Leaf.leaf.now [], boundary-le v.pieces c.args.at c.requires, c.if-at-counts.false)

pub split_back-requires : goal.split_back-requires
split_back-requires t c =
    let v = c.args.node.now.value in
    let v_is = rw c.deref-3.ensures at c.in-Inner.ensures.0 in
    let inner = rw c.deref-3.ensures at c.in-Inner.ensures.1 in
    let text = rw c.deref.ensures at c.height-height.ensures.tree.text in
    let before = ap (λ b. b.bytes) c.choose-choice.ensures.stands_before in
    let low = rw before at c.choose-choice.ensures.not_past in
    (omega (arith, c.decreases, child_falls v c.in-Inner.children.now c.choose-choice.result.index c.get-child.result.now.value c.args.at v_is inner text c.choose-choice.ensures.within c.get-child.ensures c.requires low c.choose-choice.ensures.passed), rw before (child_boundary v c.in-Inner.children.now c.choose-choice.result.index c.get-child.result.now.value c.args.at v_is inner text c.choose-choice.ensures.within c.get-child.ensures c.requires low c.choose-choice.ensures.passed))

pub concat-requires : goal.concat-requires
concat-requires t c =
    let v = c.args.node.now.value in
    let v_is = rw c.deref-3.ensures at c.in-Inner.ensures.0 in
    let inner = rw c.deref-3.ensures at c.in-Inner.ensures.1 in
    let text = rw c.deref.ensures at c.height-height.ensures.tree.text in
    let before = ap (λ b. b.bytes) c.choose-choice.ensures.stands_before in
    let low = rw before at c.choose-choice.ensures.not_past in
    let half = c.in_ok-half-in-Inner.ensures.back in
    let split = rw before at half.split in
    let rest = rest_pieces v c.in-Inner.children.now c.choose-choice.result.index c.get-child.result.now.value c.args.at v_is inner text c.choose-choice.ensures.within c.get-child.ensures c.requires low c.choose-choice.ensures.passed c.len-len.result (pieces_in c.in_ok-behind-in-Inner.behind) c.len-len.ensures.value c.in_ok-behind-in-Inner.ensures in
    rw rest (node_split_right v c.in-Inner.children.now c.choose-choice.result.index c.get-child.result.now.value c.args.at v_is inner text c.choose-choice.ensures.within c.get-child.ensures c.requires low c.choose-choice.ensures.passed half.front (pieces_in c.in_ok-half-in-Inner.half) split)

pub returns-in_ok-back-in-Inner-clause-back : goal.returns-in_ok-back-in-Inner-clause-back
returns-in_ok-back-in-Inner-clause-back t c =
    let v = c.args.node.now.value in
    let v_is = rw c.deref-3.ensures at c.in-Inner.ensures.0 in
    let inner = rw c.deref-3.ensures at c.in-Inner.ensures.1 in
    let text = rw c.deref.ensures at c.height-height.ensures.tree.text in
    let before = ap (λ b. b.bytes) c.choose-choice.ensures.stands_before in
    let low = rw before at c.choose-choice.ensures.not_past in
    let half = c.in_ok-half-in-Inner.ensures.back in
    let split = rw before at half.split in
    let rest = rest_pieces v c.in-Inner.children.now c.choose-choice.result.index c.get-child.result.now.value c.args.at v_is inner text c.choose-choice.ensures.within c.get-child.ensures c.requires low c.choose-choice.ensures.passed c.len-len.result (pieces_in c.in_ok-behind-in-Inner.behind) c.len-len.ensures.value c.in_ok-behind-in-Inner.ensures in
    let back = c.in_ok-back-in-Inner.ensures ∙ ap (λ ps. pieces_in c.in_ok-half-in-Inner.half ++ ps) rest in
    record {
      front = all_pieces (take c.choose-choice.result.index c.in-Inner.children.now) ++ half.front;
      split = rw back (node_split v c.in-Inner.children.now c.choose-choice.result.index c.get-child.result.now.value c.args.at v_is inner text c.choose-choice.ensures.within c.get-child.ensures c.requires low c.choose-choice.ensures.passed half.front (pieces_in c.in_ok-half-in-Inner.half) split);
    }
