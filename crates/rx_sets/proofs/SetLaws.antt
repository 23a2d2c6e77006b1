-- A set of scalar values has one list of maximal ranges.
use Rattle.std.proofs.Common.{◌≡◌, ℕ, ◌+◌, ◌<◌, ◌≤◌, ◌↔◌, Bool, true, false, ◌||◌, nat_lt, cond, List, [], ◌∷◌, IsTrue, refl, sym, ap, ap₂, subst, ◌∙◌, arith, inl, inr, true≢false}
use Rattle.std.proofs.lemmas.Bool.{cases_lt, cases_order, or_from, or_left}
use Rattle.std.proofs.lemmas.Bool.Decides.{nat_tests}
use Rattle.rx_sets.specs.Sets.{IsScalar, scalar_count, ordinal, Range, in_range, in_ranges, Holds, RiseFrom, IsCanonical, IsSetOf}
use Rattle.rx_sets.proofs.SetLemmas.{in_range_within, in_range_above, in_ranges_below}

-- the first range's members are members
first_within : (n : ℕ) (range : Range) (ranges : List Range) → range.0 ≤ n → n ≤ range.1 → in_ranges (range ∷ ranges) n ≡ true
first_within n range ranges low high = or_left _ _ (in_range_within n range low high)

abbrev SameBelow : List Range → List Range → Type 0
SameBelow rs ss = (n : ℕ) → n < scalar_count → in_ranges rs n ≡ in_ranges ss n

same_lows : (n : ℕ) (r s : Range) (rs ss : List Range) → RiseFrom n (r ∷ rs) → RiseFrom n (s ∷ ss) → SameBelow (r ∷ rs) (s ∷ ss) → r.0 < s.0 → ⊥
same_lows n r s rs ss rise rise' same less =
    let here : in_ranges (r ∷ rs) r.0 ≡ true = first_within r.0 r rs (omega arith) rise.1 in
    let above : RiseFrom s.0 (s ∷ ss) = (omega arith, rise'.1, rise'.2, rise'.3) in
    let there : in_ranges (s ∷ ss) r.0 ≡ false = in_ranges_below s.0 r.0 (s ∷ ss) above less in
    true≢false (sym here ∙ same r.0 (omega arith) ∙ there)

same_highs : (n : ℕ) (r s : Range) (rs ss : List Range) → RiseFrom n (r ∷ rs) → RiseFrom n (s ∷ ss) → SameBelow (r ∷ rs) (s ∷ ss) → r.0 ≡ s.0 → r.1 < s.1 → ⊥
same_highs n r s rs ss rise rise' same low less =
    let k : ℕ = r.1 + 1 in
    let there : in_ranges (s ∷ ss) k ≡ true = first_within k s ss (omega arith) (omega arith) in
    let here : in_ranges (r ∷ rs) k ≡ false =
    or_from _ _ (in_range_above k r (omega arith)) (in_ranges_below (r.1 + 2) k rs rise.3 (omega arith)) in
    true≢false (sym there ∙ sym (same k (omega arith)) ∙ here)

same_pairs : (r s : Range) → r.0 ≡ s.0 → r.1 ≡ s.1 → r ≡ s
same_pairs r s low high = ap₂ (λ (a b : ℕ). let p : Range = (a, b) in p) low high

first_ranges : (n : ℕ) (r s : Range) (rs ss : List Range) → RiseFrom n (r ∷ rs) → RiseFrom n (s ∷ ss) → SameBelow (r ∷ rs) (s ∷ ss) → r ≡ s
first_ranges n r s rs ss rise rise' same =
    let same' : SameBelow (s ∷ ss) (r ∷ rs) = λ k below. sym (same k below) in
    let low : r.0 ≡ s.0 = elim (cases_order r.0 s.0) [
      | inl e ↦ e
      | inr (inl less) ↦ absurd (same_lows n r s rs ss rise rise' same less)
      | inr (inr more) ↦ absurd (same_lows n s r ss rs rise' rise same' more)
    ] in
    let high : r.1 ≡ s.1 = elim (cases_order r.1 s.1) [
      | inl e ↦ e
      | inr (inl less) ↦ absurd (same_highs n r s rs ss rise rise' same low less)
      | inr (inr more) ↦ absurd (same_highs n s r ss rs rise' rise same' (sym low) more)
    ] in
    same_pairs r s low high

-- what lies behind equal first ranges has the same members
same_tails : (n : ℕ) (r s : Range) (rs ss : List Range) → RiseFrom (r.1 + 2) rs → RiseFrom (s.1 + 2) ss → r ≡ s → SameBelow (r ∷ rs) (s ∷ ss) → SameBelow rs ss
same_tails n r s rs ss rise rise' e same k below = elim (cases_lt r.1 k) [
  | inl above ↦
      let out_r : in_range k r ≡ false = in_range_above k r above in
      let out_s : in_range k s ≡ false = in_range_above k s (subst (λ (x : Range). x.1 < k) e above) in
      sym (ap (λ b. b || in_ranges rs k) out_r) ∙ same k below ∙ ap (λ b. b || in_ranges ss k) out_s
  | inr within ↦
      in_ranges_below (r.1 + 2) k rs rise (omega arith) ∙ sym (in_ranges_below (s.1 + 2) k ss rise' (let w : k ≤ s.1 = subst (λ (x : Range). k ≤ x.1) e within in omega arith))
]

rising_unique : (n : ℕ) (rs ss : List Range) → RiseFrom n rs → RiseFrom n ss → SameBelow rs ss → rs ≡ ss
rising_unique n [] [] rise rise' same = refl
rising_unique n [] (s ∷ ss) rise rise' same =
    absurd (true≢false (sym (first_within s.0 s ss (omega arith) rise'.1) ∙ sym (same s.0 (omega arith))))
rising_unique n (r ∷ rs) [] rise rise' same =
    absurd (true≢false (sym (first_within r.0 r rs (omega arith) rise.1) ∙ same r.0 (omega arith)))
rising_unique n (r ∷ rs) (s ∷ ss) rise rise' same =
    let e : r ≡ s = first_ranges n r s rs ss rise rise' same in
    let tails : SameBelow rs ss = same_tails n r s rs ss rise.3 rise'.3 e same in
    let rise'' : RiseFrom (r.1 + 2) ss = subst (λ (x : Range). RiseFrom (x.1 + 2) ss) (sym e) rise'.3 in
    ap₂ (λ (x : Range) xs. x ∷ xs) e (rising_unique (r.1 + 2) rs ss rise.3 rise'' tails)

-- the scalar value with an ordinal
abbrev pub scalar_at : ℕ → ℕ
scalar_at n = cond (nat_lt n 0xD800) n (n + 0x800)

IsScalar-scalar_at : (n : ℕ) → n < scalar_count → IsScalar (scalar_at n)
IsScalar-scalar_at n below = elim (cases_lt n 0xD800) [
  | inl less ↦ let e : scalar_at n ≡ n = grind (arith, nat_tests) in inl (omega arith)
  | inr more ↦ let e : scalar_at n ≡ n + 0x800 = grind (arith, nat_tests) in inr (omega arith, omega arith)
]

ordinal-scalar_at : (n : ℕ) → ordinal (scalar_at n) ≡ n
ordinal-scalar_at n = elim (cases_lt n 0xD800) [
  | inl less ↦ grind (arith, nat_tests)
  | inr more ↦ grind (arith, nat_tests)
]

-- two tests that hold together are equal
same_tests : (a b : Bool) → IsTrue a ↔ IsTrue b → a ≡ b
same_tests true true iff = refl
same_tests true false iff = absurd (true≢false (sym (iff.0 refl)))
same_tests false true iff = absurd (true≢false (sym (iff.1 refl)))
same_tests false false iff = refl

-- canonical ranges with the same members are the same ranges
pub canonical_unique : (rs ss : List Range) → IsCanonical rs → IsCanonical ss → ((c : ℕ) → IsScalar c → Holds rs c ↔ Holds ss c) → rs ≡ ss
canonical_unique rs ss rise rise' members =
    let same : SameBelow rs ss = λ n below.
    let iff = members (scalar_at n) (IsScalar-scalar_at n below) in
    subst (λ k. in_ranges rs k ≡ in_ranges ss k) (ordinal-scalar_at n) (same_tests _ _ iff) in
    rising_unique 0 rs ss rise rise' same

-- so the maximal ranges of a set are one list
pub IsSetOf-unique : (rs ss : List Range) (P : ℕ → Type 0) → IsSetOf rs P → IsSetOf ss P → rs ≡ ss
IsSetOf-unique rs ss P is is' =
    canonical_unique rs ss is.canonical is'.canonical
    (λ c scalar. (λ h. (is'.members c scalar).1 ((is.members c scalar).0 h), λ h. (is.members c scalar).1 ((is'.members c scalar).0 h)))
