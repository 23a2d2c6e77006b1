use Rattle.std.proofs.Common.{◌≡◌, ℕ, ◌≤◌, ◌∷◌, [], ◌++◌, length, ap, ◌∙◌, arith, subst}
use Rattle.std.specs.Str.{chars}
use Rattle.str_indices.specs.Text.{byte_len}
use Rattle.ropey_tree.specs.Splits.{IsSplit}
use Rattle.ropey_tree.proofs.Splitting.{leaf_parts, piece_split}
use Rattle.ropey_tree.proofs.halves.leaf_behind.Goals as goal

pub range_from-requires : goal.range_from-requires
range_from-requires c = λ _.
    (leaf_parts c.as_str.result.now c.args.leaf.now c.args.at c.as_str.ensures.bytes c.as_str.ensures.piece c.requires.boundary).boundary

pub returns : goal.returns
returns c =
    let at = c.requires.boundary in
    let h = leaf_parts c.as_str.result.now c.args.leaf.now c.args.at c.as_str.ensures.bytes c.as_str.ensures.piece c.requires.boundary in
    let back : c.in_ok-back.back ≡ at.back = c.in_ok-back.ensures ∙ ap chars c.range_from.ensures.value ∙ h.back_is in
    let is : c.in_ok-node.node.value.pieces ≡ at.back ∷ [] = ap (λ v. v.pieces) (c.in_ok-node.ensures.ok ∙ c.from_leaf.ensures) ∙ ap (λ p. p ∷ []) back in
    let whole : c.args.leaf.now ∷ [] ≡ (at.front ++ at.back) ∷ [] = ap (λ p. p ∷ []) at.parts in
    let some : 1 ≤ byte_len at.front = omega (arith, at.place, c.requires.some) in
    let some_back : 1 ≤ byte_len at.back = omega (arith, h.len, ap length c.as_str.ensures.bytes, c.requires.more) in
    let halves = piece_split at.front at.back some some_back in
    record {
      front = at.front ∷ [];
      split = rw (whole, is) (subst (λ (n : ℕ). IsSplit ((at.front ++ at.back) ∷ []) n (at.front ∷ []) (at.back ∷ [])) at.place halves);
    }
