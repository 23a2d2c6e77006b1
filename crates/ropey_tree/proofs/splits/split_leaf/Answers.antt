use Rattle.std.proofs.Common.{◌≡◌, ◌≤◌, ◌∷◌, [], ap, ◌∙◌, arith, subst, ℕ, ◌++◌}
use Rattle.std.specs.Str.{chars}
use Rattle.str_indices.specs.Text.{byte_len}
use Rattle.ropey_tree.specs.Splits.{IsSplit}
use Rattle.ropey_tree.proofs.Splitting.{leaf_parts, piece_split, split_start, slice_front}
use Rattle.ropey_tree.proofs.splits.split_leaf.Goals as goal

pub returns-then-at-eq0 : goal.returns-then-at-eq0
returns-then-at-eq0 c = rw (c.if-at-eq0.true, c.in_ok-right.ensures.cases) (split_start c.args.node.now.value.pieces)

pub range-requires-clause-end_boundary : goal.range-requires-clause-end_boundary
range-requires-clause-end_boundary c =
    (leaf_parts c.as_str-text.result.now c.args.leaf.now c.args.at c.as_str-text.ensures.bytes c.as_str-text.ensures.piece c.requires.boundary).boundary

pub range_from-requires : goal.range_from-requires
range_from-requires c = λ _.
    (leaf_parts c.as_str-text.result.now c.args.leaf.now c.args.at c.as_str-text.ensures.bytes c.as_str-text.ensures.piece c.requires.boundary).boundary

pub returns : goal.returns
returns c =
    let at = c.requires.boundary in
    let h = leaf_parts c.as_str-text.result.now c.args.leaf.now c.args.at c.as_str-text.ensures.bytes c.as_str-text.ensures.piece c.requires.boundary in
    let front : c.in_ok-front.front ≡ at.front = c.in_ok-front.ensures ∙ ap chars (c.range.ensures.value ∙ slice_front c.as_str-text.result.now c.args.at) ∙ h.front_is in
    let back : c.in_ok-back.back ≡ at.back = c.in_ok-back.ensures ∙ ap chars c.range_from.ensures.value ∙ h.back_is in
    let left : c.in_ok-left-2.left.value.pieces ≡ at.front ∷ [] = ap (λ v. v.pieces) (c.in_ok-left-2.ensures.ok ∙ c.from_leaf.ensures) ∙ ap (λ p. p ∷ []) front in
    let right : c.in_ok-right-2.right.value.pieces ≡ at.back ∷ [] = ap (λ v. v.pieces) (c.in_ok-right-2.ensures.ok ∙ c.from_leaf-2.ensures) ∙ ap (λ p. p ∷ []) back in
    let whole : c.args.node.now.value.pieces ≡ (at.front ++ at.back) ∷ [] = ap (λ v. v.pieces) c.requires.leaf ∙ ap (λ p. p ∷ []) at.parts in
    let some : 1 ≤ byte_len at.front = omega (arith, at.place, c.if-at-eq0.false) in
    let some_back : 1 ≤ byte_len at.back = omega (arith, h.len, c.if-at-text.false) in
    let halves = piece_split at.front at.back some some_back in
    rw (whole, left, right) (subst (λ (n : ℕ). IsSplit ((at.front ++ at.back) ∷ []) n (at.front ∷ []) (at.back ∷ [])) at.place halves)
