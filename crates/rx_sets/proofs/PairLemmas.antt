-- The pairs of code points with one simple case folding, in order.
use Rattle.std.proofs.Common.{◌≡◌, ℕ, zero, suc, ◌+◌, ◌-◌, ◌<◌, ◌≤◌, ◌↔◌, ◌⊎◌, ◌==◌, true, false, ◌&&◌, ◌||◌, nat_le, nat_lt, List, [], ◌∷◌, length, take, drop, get_or, Contains, refl, sym, ap, subst, ◌∙◌, arith, inl, inr, ◌≢◌}
use Rattle.std.proofs.lemmas.Bool.{or_cases, and_parts, cases_eq, cases_lt, ltb-true, ltb-false, leb-true, leb-false, eqb-true}
use Rattle.std.proofs.lemmas.List.{length-take-le, length-drop, get_or-drop, get_or-take}
use Rattle.std.specs.List.Sorted.{IsNonDecreasingBy, IsPartitionPoint}
use Rattle.unicode.specs.CaseFolding.{simple_fold, fold_pairs, IsFoldPairs}
use Rattle.unicode.proofs.BoundLemmas.{pairs_rise, pairs_rise-fold_pairs}
use Rattle.rx_sets.specs.Sets.{IsScalar, FoldsInto}
use Rattle.rx_sets.specs.Unions.{OneOf, Between, LeadsOut}
use Rattle.rx_sets.proofs.UnionLemmas.{OneOf-from, OneOf-some}

abbrev Pair : Type 0
Pair = ℕ × ℕ

first_rises : (p q : Pair) → (nat_lt p.0 q.0 || ((p.0 == q.0) && nat_lt p.1 q.1)) ≡ true → p.0 ≤ q.0
first_rises p q h = elim (or_cases _ _ h) [
  | inl less ↦ (let l = ltb-true p.0 q.0 less in omega arith)
  | inr same ↦ (let e = eqb-true p.0 q.0 (and_parts _ _ same).0 in omega arith)
]

firsts_from : (last : Pair) (ps : List Pair) → pairs_rise last ps ≡ true → (j : ℕ) (d : Pair) → j < length ps → last.0 ≤ (get_or ps j d).0
unfolding pairs_rise
firsts_from last [] rise j d below = absurd (omega arith)
firsts_from last (p ∷ ps) rise zero d below = first_rises last p (and_parts _ _ rise).0
firsts_from last (p ∷ ps) rise (suc j) d below =
    let first : last.0 ≤ p.0 = first_rises last p (and_parts _ _ rise).0 in
    let later : p.0 ≤ (get_or ps j d).0 = firsts_from p ps (and_parts _ _ rise).1 j d (omega arith) in
    omega arith

firsts_rise : (last : Pair) (ps : List Pair) → pairs_rise last ps ≡ true → IsNonDecreasingBy (λ (p : Pair). p.0) ps
unfolding pairs_rise
firsts_rise last [] rise i j d le below = absurd (omega arith)
firsts_rise last (p ∷ ps) rise zero zero d le below = omega arith
firsts_rise last (p ∷ ps) rise zero (suc j) d le below = firsts_from p ps (and_parts _ _ rise).1 j d (omega arith)
firsts_rise last (p ∷ ps) rise (suc i) zero d le below = absurd (omega arith)
firsts_rise last (p ∷ ps) rise (suc i) (suc j) d le below = firsts_rise p ps (and_parts _ _ rise).1 i j d (omega arith) (omega arith)

pub IsNonDecreasingBy-fold_pairs : IsNonDecreasingBy (λ (p : Pair). p.0) fold_pairs
IsNonDecreasingBy-fold_pairs = firsts_rise (0, 0) fold_pairs pairs_rise-fold_pairs

-- what lies between two partition points
module _ (xs : List Pair) (i j low high : ℕ) where
  abbrev Run : List Pair
  Run = take j (drop i xs)

  module _ (in_bounds : i ≤ length xs) (first : IsPartitionPoint (λ (p : Pair). nat_lt p.0 low ≡ true) (λ (p : Pair). nat_lt p.0 low ≡ false) xs i)
      (within : j ≤ length (drop i xs)) (last : IsPartitionPoint (λ (p : Pair). nat_le p.0 high ≡ true) (λ (p : Pair). nat_le p.0 high ≡ false) (drop i xs) j) where
    in_run : (p : Pair) → Contains Run p → Contains xs p × Between low high p.0
    in_run p (k, below, at) =
        let size : length Run ≡ j = length-take-le j (drop i xs) within in
        let rest : length (drop i xs) ≡ length xs - i = length-drop i xs in
        let less : k < j = omega arith in
        let in_rest : get_or (drop i xs) k p ≡ p = sym (get_or-take j (drop i xs) k p less) ∙ at in
        let here : get_or xs (i + k) p ≡ p = sym (get_or-drop i xs k p) ∙ in_rest in
        let not_below : nat_lt p.0 low ≡ false = subst (λ (q : Pair). nat_lt q.0 low ≡ false) here (first.1 (i + k) p (omega arith) (omega arith)) in
        let not_above : nat_le p.0 high ≡ true = subst (λ (q : Pair). nat_le q.0 high ≡ true) in_rest (last.0 k p (omega arith) less) in
        ((i + k, omega arith, here), (ltb-false p.0 low not_below, leb-true p.0 high not_above))

    from_table : (p : Pair) → Contains xs p × Between low high p.0 → Contains Run p
    from_table p ((k, below, at), (above_low, below_high)) = elim (cases_lt k i) [
      | inl less ↦
          (let early : nat_lt p.0 low ≡ true = subst (λ (q : Pair). nat_lt q.0 low ≡ true) at (first.0 k p (omega arith) less) in
          let e = ltb-true p.0 low early in
          absurd (omega arith))
      | inr more ↦ later more
    ]
      where
        later : i ≤ k → Contains Run p
        later more =
            let size : length Run ≡ j = length-take-le j (drop i xs) within in
            let rest : length (drop i xs) ≡ length xs - i = length-drop i xs in
            let m : ℕ = k - i in
            let same : i + m ≡ k = omega arith in
            let there : get_or (drop i xs) m p ≡ p = get_or-drop i xs m p ∙ ap (λ n. get_or xs n p) same ∙ at in
            elim (cases_lt m j) [
              | inl less ↦ (m, omega arith, get_or-take j (drop i xs) m p less ∙ there)
              | inr past ↦
                  (let late : nat_le p.0 high ≡ false = subst (λ (q : Pair). nat_le q.0 high ≡ false) there (last.1 m p past (omega arith)) in
                  let e = leb-false p.0 high late in
                  absurd (omega arith))
            ]

-- the pairs whose first part is from low to high, as two searches find them
pub pairs_found : (table rest run : List Pair) (i j low high : ℕ) → IsFoldPairs table → i ≤ length table
    → IsPartitionPoint (λ (p : Pair). nat_lt p.0 low ≡ true) (λ (p : Pair). nat_lt p.0 low ≡ false) table i → rest ≡ drop i table → j ≤ length rest
    → IsPartitionPoint (λ (p : Pair). nat_le p.0 high ≡ true) (λ (p : Pair). nat_le p.0 high ≡ false) rest j → run ≡ take j rest
    → (a b : ℕ) → Contains run (a, b) ↔ ((a ≢ b) × (simple_fold a ≡ simple_fold b) × Between low high a)
pairs_found table rest run i j low high meaning in_bounds first rest_is within last run_is a b =
    let within' : j ≤ length (drop i table) = subst (λ (l : List Pair). j ≤ length l) rest_is within in
    let last' : IsPartitionPoint (λ (p : Pair). nat_le p.0 high ≡ true) (λ (p : Pair). nat_le p.0 high ≡ false) (drop i table) j =
    subst (λ (l : List Pair). IsPartitionPoint (λ (p : Pair). nat_le p.0 high ≡ true) (λ (p : Pair). nat_le p.0 high ≡ false) l j) rest_is last in
    let run_is' : run ≡ take j (drop i table) = run_is ∙ ap (λ (l : List Pair). take j l) rest_is in (
      λ has.
          let found = in_run table i j low high in_bounds first within' last' (a, b) (subst (λ (l : List Pair). Contains l (a, b)) run_is' has) in
          let pair = (meaning a b).0 found.0 in
          (pair.0, pair.1, found.1),
      λ h.
          let listed : Contains table (a, b) = (meaning a b).1 (h.0, h.1) in
          subst (λ (l : List Pair). Contains l (a, b)) (sym run_is') (from_table table i j low high in_bounds first within' last' (a, b) (listed, h.2)),
    )

-- what lies between two code points, with what the pairs lead to from there, is what folds into it
pub folded_span : (run : List Pair) (low high : ℕ) → ((a b : ℕ) → Contains run (a, b) ↔ ((a ≢ b) × (simple_fold a ≡ simple_fold b) × Between low high a))
    → (c : ℕ) → IsScalar c → (Between low high c ⊎ OneOf (LeadsOut low high c) run) ↔ FoldsInto (Between low high) c
folded_span run low high pairs c scalar = (there, back)
  where
    there : Between low high c ⊎ OneOf (LeadsOut low high c) run → FoldsInto (Between low high) c
    there (inl within) = (c, scalar, within, refl)
    there (inr led) =
        let some = OneOf-some (LeadsOut low high c) run led in
        let pair = (pairs some.0.0 some.0.1).0 some.1 in
        (some.0.0, some.2.0.0, pair.2, sym (pair.1 ∙ ap simple_fold some.2.0.1))

    from_outside : FoldsInto (Between low high) c → (Between low high c → ⊥) → OneOf (LeadsOut low high c) run
    from_outside (d, scalar', within, folds) outside = elim (cases_eq d c) [
      | inl same ↦ absurd (outside (subst (Between low high) same within))
      | inr other ↦ OneOf-from (LeadsOut low high c) run (d, c) ((pairs d c).1 (other, sym folds, within)) ((scalar', refl), outside)
    ]

    back : FoldsInto (Between low high) c → Between low high c ⊎ OneOf (LeadsOut low high c) run
    back folded = elim (cases_lt c low) [
      | inl less ↦ inr (from_outside folded (λ b. let at_least = b.0 in omega arith))
      | inr from ↦ elim (cases_lt high c) [
        | inl more ↦ inr (from_outside folded (λ b. let at_most = b.1 in omega arith))
        | inr to ↦ inl (from, to)
      ]
    ]
