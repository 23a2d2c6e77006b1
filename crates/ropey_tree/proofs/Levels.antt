-- A level of nodes over the level below, node by node.
use Rattle.std.proofs.Common.{◌≡◌, ℕ, ◌+◌, ◌*◌, ◌<◌, ◌≤◌, ◌⊎◌, inl, inr, List, [], ◌∷◌, ◌++◌, length, take, ap, arith, sym, ◌∙◌, length-append, length-take-le}
use Rattle.std.proofs.lemmas.List.Elements.{All-cons, All-nil, All-append}
use Rattle.ropey_tree.specs.NodeView.{NodeView}
use Rattle.ropey_tree.specs.Nodes.{all_pieces, AreNodes, IsNodeOf, IsInner, inner_view}
use Rattle.ropey_tree.proofs.InRow.{all_pieces-append, all_pieces-one}
use Rattle.ropey_tree.proofs.Packing.{part_inner, node_over}

-- the nodes so far, over those before `from`
pub record IsLevelSoFar (height : ℕ) (below above : List NodeView) (from : ℕ) : Type 0 where
  pub within : from ≤ length below
  pub pieces : all_pieces above ≡ all_pieces (take from below)
  pub few : 2 * length above ≤ from
  pub some : (from ≡ 0) ⊎ (1 ≤ length above)
  pub left : (from ≡ 0) ⊎ ((from ≡ length below) ⊎ (from + 12 ≤ length below))
  pub full : AreNodes height 12 above ⊎ ((from ≡ length below) × (length above ≡ 1))

-- the next node
module _ (height : ℕ) (below above children : List NodeView) (from to : ℕ) (node : NodeView) (h : IsLevelSoFar height below above from) (inner : IsInner height below)
    (more : from < length below) (taken : take from below ++ children ≡ take to below) (within : to ≤ length below) (two : from + 2 ≤ to) (is : node ≡ inner_view height children)
    (enough : (to ≡ length below) ⊎ ((from + 12 ≤ to) × (to + 12 ≤ length below))) where
  pub children_len : from + length children ≡ to
  children_len = omega (arith, ap length taken, length-append (take from below) children, length-take-le from below (omega arith), length-take-le to below within)

  pub children_inner : IsInner height children
  children_inner = part_inner height below children from to inner taken (omega (arith, children_len, two))

  next_pieces : all_pieces (above ++ node ∷ []) ≡ all_pieces (take to below)
  next_pieces = all_pieces-append above (node ∷ []) ∙ ap (λ ps. ps ++ all_pieces (node ∷ [])) h.pieces ∙ ap (λ ps. all_pieces (take from below) ++ ps) (all_pieces-one node ∙ ap (λ v. v.pieces) is)
      ∙ sym (all_pieces-append (take from below) children) ∙ ap all_pieces taken

  -- a full node next to full nodes
  full_step : 12 ≤ length children → AreNodes height 12 (above ++ node ∷ []) ⊎ ((to ≡ length below) × (length (above ++ node ∷ []) ≡ 1))
  full_step big =
      let new = All-cons (IsNodeOf height 12) node [] (node_over height 12 children node children_inner is big) (All-nil (IsNodeOf height 12)) in
      elim h.full [
        | inl all ↦ inl (All-append (IsNodeOf height 12) above (node ∷ []) all new)
        | inr one ↦ absurd (omega (arith, one.0, more))
      ]

  next_full : AreNodes height 12 (above ++ node ∷ []) ⊎ ((to ≡ length below) × (length (above ++ node ∷ []) ≡ 1))
  next_full = elim enough [
    | inl end ↦ elim h.left [
      | inl start ↦ inr (end, omega (arith, h.few, start, length-append above (node ∷ [])))
      | inr rest ↦ elim rest [
        | inl over ↦ absurd (omega (arith, over, more))
        | inr many ↦ full_step (omega (arith, many, end, children_len))
      ]
    ]
    | inr big ↦ full_step (omega (arith, big.0, children_len))
  ]

  pub level_step : IsLevelSoFar height below (above ++ node ∷ []) to
  level_step = record {
    within = within;
    pieces = next_pieces;
    few = omega (arith, h.few, two, length-append above (node ∷ []));
    some = inr (omega (arith, length-append above (node ∷ [])));
    left = inr (elim enough [ inl end ↦ inl end | inr big ↦ inr big.1 ]);
    full = next_full;
  }
