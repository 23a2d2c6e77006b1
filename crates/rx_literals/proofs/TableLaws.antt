-- Needles whose first three bytes a table has.
use Rattle.std.proofs.Common.{◌≡◌, ℕ, ◌+◌, ◌<◌, ◌≤◌, List, [], ◌∷◌, get_or, min, None, sym, ap, subst, ◌∙◌, arith, inl, inr}
use Rattle.std.proofs.lemmas.Bool.{cases_lt}
use Rattle.std.proofs.lemmas.List.Elements.{All-head, All-tail}
use Rattle.memchr.specs.Find.{Nowhere, OccursAt}
use Rattle.rx_literals.specs.Needles.{FoundAt, no_needle, other_needle}
use Rattle.rx_literals.specs.NeedleTables.{MayOccurAt, BeginInTable}

-- a needle that occurs may occur
may_occur : (shifts hay needle : List ℕ) (i : ℕ) → MayOccurAt shifts needle 0 → OccursAt hay needle i → MayOccurAt shifts hay i
may_occur shifts hay needle i begins occurs =
    let same : i + 0 ≡ i = omega arith in
    let first : get_or hay i 0 ≡ get_or needle 0 0 = ap (λ k. get_or hay k 0) (sym same) ∙ occurs.reads 0 (omega (arith, begins.fits)) in
    let second : get_or hay (i + 1) 0 ≡ get_or needle 1 0 = occurs.reads 1 (omega (arith, begins.fits)) in
    let third : get_or hay (i + 2) 0 ≡ get_or needle 2 0 = occurs.reads 2 (omega (arith, begins.fits)) in
    record {
      fits = omega (arith, begins.fits, occurs.fits);
      first = subst (λ b. get_or shifts b 3 ≤ 2) (sym first) begins.first;
      second = subst (λ b. get_or shifts b 3 ≤ 1) (sym second) begins.second;
      third = ap (λ b. get_or shifts b 3) third ∙ begins.third;
    }

-- where none may occur, none is found
pub none_without : (shifts hay : List ℕ) (i : ℕ) → (MayOccurAt shifts hay i → ⊥) → (needles : List (List ℕ)) → BeginInTable shifts needles → FoundAt hay i needles None
none_without shifts hay i absent [] begin = no_needle
none_without shifts hay i absent (needle ∷ needles) begin =
    other_needle (λ occurs. absent (may_occur shifts hay needle i (All-head (λ n. MayOccurAt shifts n 0) needle needles begin) occurs))
    (none_without shifts hay i absent needles (All-tail (λ n. MayOccurAt shifts n 0) needle needles begin))

-- a table of more needles has those of the same ones
pub in_more : (shifts more : List ℕ) → ((b : ℕ) → get_or more b 3 ≤ get_or shifts b 3) → (needle : List ℕ) → MayOccurAt shifts needle 0 → MayOccurAt more needle 0
in_more shifts more less needle begins = record {
  fits = begins.fits;
  first = omega (arith, less (get_or needle 0 0), begins.first);
  second = omega (arith, less (get_or needle (0 + 1) 0), begins.second);
  third = omega (arith, less (get_or needle (0 + 2) 0), begins.third);
}

-- at an offset past whose third byte a search moves by some offsets, and at those before these, no
-- needle may occur
pub none_passed : (shifts hay : List ℕ) (at shift : ℕ) → get_or shifts (get_or hay (at + 2) 0) 3 ≡ shift → 0 < shift → Nowhere (MayOccurAt shifts hay) at (at + min shift 3)
none_passed shifts hay at shift is some k low high here = elim (cases_lt k (at + 1)) [
  | inl first ↦ (
      let same : k + 2 ≡ at + 2 = omega (arith, low, first) in
      absurd (omega (arith, subst (λ i. get_or shifts (get_or hay i 0) 3 ≡ 0) same here.third, is, some)))
  | inr after ↦ elim (cases_lt k (at + 2)) [
    | inl second ↦ (
        let same : k + 1 ≡ at + 2 = omega (arith, after, second) in
        absurd (omega (arith, subst (λ i. get_or shifts (get_or hay i 0) 3 ≤ 1) same here.second, is, high, after)))
    | inr last ↦ (
        let same : k ≡ at + 2 = omega (arith, last, high) in
        absurd (omega (arith, subst (λ i. get_or shifts (get_or hay i 0) 3 ≤ 2) same here.first, is, high, last)))
  ]
]

-- two stretches without one are one
pub none_further : (P : ℕ → Type 0) (from at to : ℕ) → Nowhere P from at → Nowhere P at to → Nowhere P from to
none_further P from at to before after k low high here = elim (cases_lt k at) [
  | inl under ↦ before k low under here
  | inr above ↦ after k above high here
]

-- an offset at which none may occur is passed
pub none_at : (P : ℕ → Type 0) (at : ℕ) → (P at → ⊥) → Nowhere P at (at + 1)
none_at P at absent k low high here =
    let same : k ≡ at = omega (arith, low, high) in
    absent (subst P same here)
