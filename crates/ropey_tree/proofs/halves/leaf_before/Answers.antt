use Rattle.std.proofs.Common.{◌≡◌, ℕ, ◌≤◌, ◌∷◌, [], ◌++◌, length, ap, ◌∙◌, arith, subst}
use Rattle.std.specs.Str.{chars}
use Rattle.str_indices.specs.Text.{byte_len}
use Rattle.ropey_tree.specs.Splits.{IsSplit}
use Rattle.ropey_tree.proofs.Splitting.{leaf_parts, piece_split, slice_front}
use Rattle.ropey_tree.proofs.halves.leaf_before.Goals as goal

pub range-requires-clause-end_boundary : goal.range-requires-clause-end_boundary
range-requires-clause-end_boundary c =
    (leaf_parts c.as_str.result.now c.args.leaf.now c.args.at c.as_str.ensures.bytes c.as_str.ensures.piece c.requires.boundary).boundary

pub returns : goal.returns
returns c =
    let at = c.requires.boundary in
    let h = leaf_parts c.as_str.result.now c.args.leaf.now c.args.at c.as_str.ensures.bytes c.as_str.ensures.piece c.requires.boundary in
    let front : c.in_ok-front.front ≡ at.front = c.in_ok-front.ensures ∙ ap chars (c.range.ensures.value ∙ slice_front c.as_str.result.now c.args.at) ∙ h.front_is in
    let is : c.in_ok-node.node.value.pieces ≡ at.front ∷ [] = ap (λ v. v.pieces) (c.in_ok-node.ensures.ok ∙ c.from_leaf.ensures) ∙ ap (λ p. p ∷ []) front in
    let whole : c.args.leaf.now ∷ [] ≡ (at.front ++ at.back) ∷ [] = ap (λ p. p ∷ []) at.parts in
    let some : 1 ≤ byte_len at.front = omega (arith, at.place, c.requires.some) in
    let some_back : 1 ≤ byte_len at.back = omega (arith, h.len, ap length c.as_str.ensures.bytes, c.requires.more) in
    let halves = piece_split at.front at.back some some_back in
    record {
      rest = at.back ∷ [];
      split = rw (whole, is) (subst (λ (n : ℕ). IsSplit ((at.front ++ at.back) ∷ []) n (at.front ∷ []) (at.back ∷ [])) at.place halves);
    }
