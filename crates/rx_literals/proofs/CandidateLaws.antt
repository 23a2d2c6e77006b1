-- Needles that occur only at some offsets, and what is found by trying these.
use Rattle.std.proofs.Common.{◌≡◌, ℕ, ◌+◌, ◌<◌, List, length, Some, None, subst, arith, inl, inr}
use Rattle.std.proofs.lemmas.Bool.{cases_lt}
use Rattle.memchr.specs.Find.{Nowhere, NoneBefore}
use Rattle.rx_util.specs.declared.search.Span.{Span}
use Rattle.rx_literals.specs.Needles.{FoundAt, FoundBetween, nowhere, at_least_place}

module _ (P : ℕ → Type 0) (hay : List ℕ) (needles : List (List ℕ)) (skips : (i : ℕ) → (P i → ⊥) → FoundAt hay i needles None) (from : ℕ) (none : (i : ℕ) → i < from → FoundAt hay i needles None) where
  -- nothing is found before the next of these offsets
  pub none_before : (at : ℕ) → Nowhere P from at → (i : ℕ) → i < at → FoundAt hay i needles None
  none_before at absent i below = elim (cases_lt i from) [
    | inl under ↦ none i under
    | inr above ↦ skips i (λ here. absent i above below here)
  ]

  pub found_first : (at : ℕ) (span : Span) → NoneBefore P from (length hay) at → FoundAt hay at needles (Some span) → FoundBetween hay needles 0 (length hay) (Some span)
  found_first at span before here = at_least_place at (omega arith) before.high here (λ j low below. none_before at before.before j below)

  pub found_nowhere : Nowhere P from (length hay) → FoundBetween hay needles 0 (length hay) None
  found_nowhere absent = nowhere (λ i low high. none_before (length hay) absent i high)

  pub none_up_to : (at : ℕ) → Nowhere P from at → FoundAt hay at needles None → (i : ℕ) → i < at + 1 → FoundAt hay i needles None
  none_up_to at absent here i below = elim (cases_lt i at) [
    | inl under ↦ none_before at absent i under
    | inr above ↦ (let same : at ≡ i = omega (arith, above, below) in subst (λ k. FoundAt hay k needles None) same here)
  ]
