-- Rows of nodes that are built under one parent or two.
use Rattle.std.proofs.Common.{◌≡◌, ℕ, ◌+◌, ◌-◌, ◌≤◌, ◌⊎◌, inl, inr, List, [], ◌++◌, length, take, drop, ap, arith, sym, ◌∙◌, append_assoc, length-append}
use Rattle.std.proofs.lemmas.Bool.{cases_lt}
use Rattle.std.proofs.lemmas.List.{append-nil, drop-drop}
use Rattle.std.proofs.Math.Seq.{take-add}
use Rattle.ropey_tree.specs.NodeView.{NodeView}
use Rattle.ropey_tree.specs.Siblings.{AreHalves, IsRowCut}

-- a part of a row, of which the first list gets the first ones
module _ (ws : List NodeView) (from to m : ℕ) (few : m ≤ to - from) where
  both_parts : take (from + m - from) (drop from ws) ++ take (to - (from + m)) (drop (from + m) ws) ≡ take (to - from) (drop from ws)
  both_parts =
      let first : from + m - from ≡ m = omega arith in
      let rest : to - (from + m) ≡ to - from - m = omega arith in
      let all : m + (to - from - m) ≡ to - from = omega (arith, few) in
      ap (λ k. take k (drop from ws) ++ take (to - (from + m)) (drop (from + m) ws)) first ∙ ap (λ k. take m (drop from ws) ++ take k (drop (from + m) ws)) rest
      ∙ ap (λ us. take m (drop from ws) ++ take (to - from - m) us) (sym (drop-drop m from ws)) ∙ sym (take-add m (to - from - m) (drop from ws)) ∙ ap (λ k. take k (drop from ws)) all

  pub parts_join : (first second : List NodeView) → (m ≡ 0) ⊎ (second ≡ [])
      → (first ++ take (from + m - from) (drop from ws)) ++ (second ++ take (to - (from + m)) (drop (from + m) ws)) ≡ (first ++ second) ++ take (to - from) (drop from ws)
  parts_join first second order =
      let front = take (from + m - from) (drop from ws) in
      let back = take (to - (from + m)) (drop (from + m) ws) in
      elim order [
        | inl none ↦
            let start : from + m - from ≡ 0 = omega (arith, none) in
            let at : from + m ≡ from = omega (arith, none) in
            ap (λ k. (first ++ take k (drop from ws)) ++ (second ++ back)) start ∙ ap (λ us. us ++ (second ++ back)) (append-nil first)
            ∙ ap (λ k. first ++ (second ++ take (to - k) (drop k ws))) at ∙ sym (append_assoc first second (take (to - from) (drop from ws)))
        | inr e ↦
            ap (λ us. (first ++ front) ++ (us ++ back)) e ∙ append_assoc first front back ∙ ap (λ us. first ++ us) both_parts
            ∙ ap (λ us. us ++ take (to - from) (drop from ws)) (sym (append-nil first) ∙ ap (λ us. first ++ us) (sym e))
      ]

module _ (cut : ℕ) (a b nodes : List NodeView) (h : AreHalves cut a b) (c : IsRowCut (length nodes) cut) (is : a ++ b ≡ nodes) where
  sums : length a + length b ≡ length nodes
  sums = sym (length-append a b) ∙ ap length is

  -- the first list has two nodes or more
  pub first_len : 2 ≤ length nodes → 2 ≤ length a
  first_len two = elim h.order [
    | inl e ↦ elim (cases_lt 24 (length nodes)) [
      | inl many ↦ omega (arith, e, c.two many, many)
      | inr few ↦ omega (arith, e, c.one few, two)
    ]
    | inr none ↦ omega (arith, ap length none, sums, two)
  ]

  -- both are halves if the second has any
  pub halves_len : 1 ≤ length b → (12 ≤ length a) × (12 ≤ length b)
  halves_len some = elim h.order [
    | inl e ↦ elim (cases_lt 24 (length nodes)) [
      | inl many ↦ (omega (arith, e, c.two many, many), omega (arith, e, c.two many, many, sums))
      | inr few ↦ absurd (omega (arith, e, c.one few, sums, some))
    ]
    | inr none ↦ absurd (omega (arith, ap length none, some))
  ]
