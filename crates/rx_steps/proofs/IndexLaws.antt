-- The indices of nodes.
use Rattle.std.proofs.Common.{◌≡◌, ℕ, zero, suc, ◌+◌, ◌-◌, ◌<◌, ◌≤◌, Bool, true, false, nat_lt, cond, List, [], ◌∷◌, ◌++◌, length, map, Option, Some, None, slice_get, Contains, IsTrue, ◌⊎◌, ◌↔◌, ◌≢◌, All, AllPairs, if◌then◌else◌, refl, sym, ap, ap₂, subst, ◌∙◌, arith, eqb, inl, inr}
use Rattle.std.proofs.lemmas.Bool.Decides.{nat_tests, Decides-eqb}
use Rattle.std.proofs.lemmas.Map.Made.{IsDistinct-from_AllPairs}
use Rattle.std.proofs.lemmas.Map.Steps.{length-le_from_distinct_below}
use Rattle.std.proofs.lemmas.Map.Views.{Contains-from_any}
use Rattle.rx_program.specs.declared.states.State.{State}
use Rattle.rx_steps.specs.Nodes.{width_of, index_from, node_starts, end_from, widths_in, IsInserted}

same_some : {a b : ℕ} → Some a ≡ Some b → a ≡ b
same_some e = cc e

pub first_start : (first : ℕ) (widths : List ℕ) → slice_get (node_starts first widths) 0 ≡ Some first
first_start first [] = refl
first_start first (n ∷ widths) = refl

pub widths_back : (first : ℕ) (widths : List ℕ) → widths_in (node_starts first widths) ≡ widths
widths_back first [] = refl
widths_back first (n ∷ []) = ap (λ x. x ∷ []) (omega arith)
widths_back first (n ∷ k ∷ widths) = ap₂ (λ x xs. x ∷ xs) (omega arith) (widths_back (first + n) (k ∷ widths))

-- an index from two neighbouring first nodes
pub index_between : (first : ℕ) (widths : List ℕ) (q s x y : ℕ) → slice_get (node_starts first widths) q ≡ Some x → slice_get (node_starts first widths) (suc q) ≡ Some y
    → index_from first widths q s ≡ cond (nat_lt s (y - x)) (Some (x + s)) None
index_between first [] q s x y e f = absurd (cc f)
index_between first (n ∷ widths) zero s x y e f =
    let start : first ≡ x = same_some e in
    let end : first + n ≡ y = same_some (sym (first_start (first + n) widths) ∙ f) in
    let width : n ≡ y - x = omega (arith, start, end) in
    subst (λ w. cond (nat_lt s n) (Some (first + s)) None ≡ cond (nat_lt s w) (Some (x + s)) None) width
    (ap (λ w. cond (nat_lt s n) (Some (w + s)) None) start)
index_between first (n ∷ widths) (suc q) s x y e f = index_between (first + n) widths q s x y e f

pub no_index : (first : ℕ) (widths : List ℕ) (q s : ℕ) → slice_get (node_starts first widths) (suc q) ≡ None → index_from first widths q s ≡ None
no_index first [] q s e = refl
no_index first (n ∷ widths) zero s e = absurd (cc (sym (first_start (first + n) widths) ∙ e))
no_index first (n ∷ widths) (suc q) s e = no_index (first + n) widths q s e

pub no_start : (first : ℕ) (widths : List ℕ) (q s : ℕ) → slice_get (node_starts first widths) q ≡ None → index_from first widths q s ≡ None
no_start first [] q s e = refl
no_start first (n ∷ widths) zero s e = absurd (cc e)
no_start first (n ∷ widths) (suc q) s e = no_start (first + n) widths q s e

pub starts_rise : (first : ℕ) (widths : List ℕ) (q x y : ℕ) → slice_get (node_starts first widths) q ≡ Some x → slice_get (node_starts first widths) (suc q) ≡ Some y → x ≤ y
starts_rise first [] q x y e f = absurd (cc f)
starts_rise first (n ∷ widths) zero x y e f =
    let start : first ≡ x = same_some e in
    let end : first + n ≡ y = same_some (sym (first_start (first + n) widths) ∙ f) in
    omega (arith, start, end)
starts_rise first (n ∷ widths) (suc q) x y e f = starts_rise (first + n) widths q x y e f

at_first : (b : Bool) (x k : ℕ) → cond b (Some x) None ≡ Some k → (b ≡ true) × (x ≡ k)
at_first true x k e = (refl, same_some e)
at_first false x k e = absurd (cc e)

end_above : (first : ℕ) (widths : List ℕ) → first ≤ end_from first widths
end_above first [] = omega arith
end_above first (n ∷ widths) = omega (arith, end_above (first + n) widths)

below_width : (s n : ℕ) → nat_lt s n ≡ true → s < n
below_width s n e = grind (arith, nat_tests)

pub index_inside : (first : ℕ) (widths : List ℕ) (q s k : ℕ) → index_from first widths q s ≡ Some k → (first ≤ k) × (k < end_from first widths)
index_inside first [] q s k e = absurd (cc e)
index_inside first (n ∷ widths) zero s k e =
    let h = at_first (nat_lt s n) (first + s) k e in
    let less : s < n = below_width s n h.0 in
    let end : first + n ≤ end_from (first + n) widths = end_above (first + n) widths in
    (omega (arith, h.1), omega (arith, h.1, less, end))
index_inside first (n ∷ widths) (suc q) s k e =
    let h = index_inside (first + n) widths q s k e in (omega (arith, h.0), h.1)

-- an index belongs to one node
pub one_index : (first : ℕ) (widths : List ℕ) (q s q' s' k : ℕ) → index_from first widths q s ≡ Some k → index_from first widths q' s' ≡ Some k → (q ≡ q') × (s ≡ s')
one_index first [] q s q' s' k e f = absurd (cc e)
one_index first (n ∷ widths) zero s zero s' k e f =
    let h = at_first (nat_lt s n) (first + s) k e in
    let g = at_first (nat_lt s' n) (first + s') k f in
    (refl, omega (arith, h.1, g.1))
one_index first (n ∷ widths) zero s (suc q') s' k e f =
    let h = at_first (nat_lt s n) (first + s) k e in
    let less : s < n = below_width s n h.0 in
    let g = index_inside (first + n) widths q' s' k f in
    absurd (omega (arith, h.1, less, g.0))
one_index first (n ∷ widths) (suc q) s zero s' k e f =
    let h = at_first (nat_lt s' n) (first + s') k f in
    let less : s' < n = below_width s' n h.0 in
    let g = index_inside (first + n) widths q s k e in
    absurd (omega (arith, h.1, less, g.0))
one_index first (n ∷ widths) (suc q) s (suc q') s' k e f =
    let h = one_index (first + n) widths q s q' s' k e f in (ap (λ x. suc x) h.0, h.1)

-- a node without an index is past the nodes of its state
pub behind : (first : ℕ) (states : List State) (q s : ℕ) (x : State) → slice_get states q ≡ Some x → index_from first (map width_of states) q s ≡ None → width_of x ≤ s
behind first [] q s x e f = absurd (cc e)
behind first (y ∷ states) zero s x e f = subst (λ z. width_of z ≤ s) (the_state e) (not_below (nat_lt s (width_of y)) refl f)
  where
    the_state : Some y ≡ Some x → y ≡ x
    the_state g = cc g

    not_below : (b : Bool) → nat_lt s (width_of y) ≡ b → cond b (Some (first + s)) None ≡ None → width_of y ≤ s
    not_below true is g = absurd (cc g)
    not_below false is g = grind (arith, nat_tests)
behind first (y ∷ states) (suc q) s x e f = behind (first + width_of y) states q s x e f

-- ---- whether there is an index is decidable

pub same_number : (a b : ℕ) → (a ≡ b) ⊎ (a ≡ b → ⊥)
same_number zero zero = inl refl
same_number zero (suc b) = inr (λ e. cc e)
same_number (suc a) zero = inr (λ e. cc e)
same_number (suc a) (suc b) = elim (same_number a b) [ inl e ↦ inl (ap (λ x. suc x) e) | inr n ↦ inr (λ e. n (cc e)) ]

split : (xs : List ℕ) (y x : ℕ) → Contains (y ∷ xs) x → (y ≡ x) ⊎ Contains xs x
split xs y x (zero, within, is) = inl is
split xs y x (suc k, within, is) = inr (k, omega (arith, within), is)

none_there : (x : ℕ) → Contains [] x → ⊥
none_there x (k, within, is) = absurd (omega (arith, within))

there : (xs : List ℕ) (y x : ℕ) → Contains xs x → Contains (y ∷ xs) x
there xs y x (k, within, is) = (suc k, omega (arith, within), is)

has_or_not : (ids : List ℕ) (k : ℕ) → Contains ids k ⊎ (Contains ids k → ⊥)
has_or_not [] k = inr (none_there k)
has_or_not (x ∷ ids) k = elim (same_number x k) [
  | inl e ↦ inl (0, omega arith, e)
  | inr n ↦ elim (has_or_not ids k) [
    | inl c ↦ inl (there ids x k c)
    | inr new ↦ inr (λ c. elim (split ids x k c) [ inl e ↦ n e | inr c' ↦ new c' ])
  ]
]

pub inserted : (is_new : Bool) (k : ℕ) (ids ids' : List ℕ) → (IsTrue is_new ↔ (Contains ids k → ⊥)) → ids' ≡ (if is_new then ids ++ k ∷ [] else ids) → IsInserted (Some k) is_new ids ids'
inserted true k ids ids' iff is = (iff.0 refl, is)
inserted false k ids ids' iff is = (elim (has_or_not ids k) [ inl c ↦ c | inr n ↦ absurd (not_true (iff.1 n)) ], is)
  where
    not_true : IsTrue false → ⊥
    not_true e = cc e

-- distinct indices below a number are at most as many
pub few : (end : ℕ) (ids : List ℕ) → All (λ k. k < end) ids → AllPairs (λ a b. a ≢ b) ids → length ids ≤ end
few end ids below apart = length-le_from_distinct_below ids end (IsDistinct-from_AllPairs Decides-eqb ids apart)
    (λ q any. let at = Contains-from_any {eq = eqb} (λ x y. (Decides-eqb x y).0) q ids any in subst (λ x. x < end) at.2 (below at.0 q at.1))

-- the index of a node that was new
pub new_index : (o : Option ℕ) (is_new : Bool) (ids ids' : List ℕ) → is_new ≡ true → IsInserted o is_new ids ids' → (k : ℕ) × (o ≡ Some k) × (Contains ids k → ⊥) × (ids' ≡ ids ++ k ∷ [])
new_index None is_new ids ids' e is = absurd (cc (e, is.0))
new_index (Some k) true ids ids' e is = (k, refl, is.0, is.1)
new_index (Some k) false ids ids' e is = absurd (cc e)
