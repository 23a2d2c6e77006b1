-- Closing a set under simple case folding by the table of pairs.
use Rattle.std.proofs.Common.{◌≡◌, ℕ, ◌↔◌, ◌==◌, Bool, true, ◌&&◌, ◌||◌, List, Contains, refl, sym, ap, subst, ◌∙◌, arith, inl, inr}
use Rattle.std.specs.List.{list_any, Any}
use Rattle.std.proofs.lemmas.Bool.{or_cases, or_left, or_right, and_parts, and_from, eqb-true, eq-eqb, cases_eq}
use Rattle.std.proofs.lemmas.Bool.Decides.{nat_tests}
use Rattle.std.proofs.lemmas.List.Folds.{Any-from_list_any, list_any_at}
use Rattle.unicode.specs.CaseFolding.{simple_fold, IsFoldPairs}
use Rattle.rx_sets.specs.Sets.{IsScalar, is_scalar, ordinal, Range, in_ranges, Holds, FoldsInto}

pub IsScalar-from_test : (c : ℕ) → is_scalar c ≡ true → IsScalar c
IsScalar-from_test c h = grind (arith, nat_tests)

pub is_scalar-true : (c : ℕ) → IsScalar c → is_scalar c ≡ true
is_scalar-true c h = grind (arith, nat_tests)

-- scalar values with the same ordinal are the same
pub ordinal-unique : (c d : ℕ) → IsScalar c → IsScalar d → ordinal c ≡ ordinal d → c ≡ d
ordinal-unique c d scalar scalar' e = grind (arith, nat_tests)

-- the pair leads from a member to the ordinal
abbrev pub leads_to : List Range → ℕ → ℕ × ℕ → Bool
leads_to ranges n pair = (is_scalar pair.0 && (is_scalar pair.1 && in_ranges ranges (ordinal pair.0))) && (ordinal pair.1 == n)

-- where members and what pairs lead to are together, these are the values that fold into a member
pub folded_members : (ranges new : List Range) (pairs : List (ℕ × ℕ)) (c : ℕ) → IsFoldPairs pairs → IsScalar c
    → in_ranges new (ordinal c) ≡ (in_ranges ranges (ordinal c) || list_any (leads_to ranges (ordinal c)) pairs) → Holds new c ↔ FoldsInto (Holds ranges) c
folded_members ranges new pairs c table scalar is = (there, back)
  where
    through : (p : ℕ × ℕ) → Contains pairs p → leads_to ranges (ordinal c) p ≡ true → FoldsInto (Holds ranges) c
    through p listed leads =
        let parts = and_parts _ _ leads in
        let first = and_parts _ _ parts.0 in
        let second = and_parts _ _ first.1 in
        let same : p.1 ≡ c = ordinal-unique p.1 c (IsScalar-from_test p.1 second.0) scalar (eqb-true _ _ parts.1) in
        let folds : simple_fold p.0 ≡ simple_fold p.1 = ((table p.0 p.1).0 listed).1 in
        (p.0, IsScalar-from_test p.0 first.0, second.1, ap simple_fold (sym same) ∙ sym folds)

    there : Holds new c → FoldsInto (Holds ranges) c
    there holds = elim (or_cases _ _ (sym is ∙ holds)) [
      | inl inside ↦ (c, scalar, inside, refl)
      | inr led ↦ from_any (Any-from_list_any (leads_to ranges (ordinal c)) pairs led)
    ]
      where
        from_any : Any (λ p. leads_to ranges (ordinal c) p ≡ true) pairs → FoldsInto (Holds ranges) c
        from_any (k, p, below, at, leads) = through p (k, below, at) leads

    led_to : (d : ℕ) → IsScalar d → Holds ranges d → Contains pairs (d, c) → list_any (leads_to ranges (ordinal c)) pairs ≡ true
    led_to d scalar' inside (k, below, at) =
        let leads : leads_to ranges (ordinal c) (d, c) ≡ true =
        and_from _ _ (and_from _ _ (is_scalar-true d scalar') (and_from _ _ (is_scalar-true c scalar) inside)) (eq-eqb _ _ refl) in
        list_any_at (leads_to ranges (ordinal c)) pairs k (d, c) below (subst (λ (p : ℕ × ℕ). leads_to ranges (ordinal c) p ≡ true) (sym at) leads)

    back : FoldsInto (Holds ranges) c → Holds new c
    back (d, scalar', inside, folds) = elim (cases_eq d c) [
      | inl same ↦ is ∙ or_left _ _ (subst (Holds ranges) same inside)
      | inr other ↦ is ∙ or_right _ _ (led_to d scalar' inside ((table d c).1 (other, sym folds)))
    ]
