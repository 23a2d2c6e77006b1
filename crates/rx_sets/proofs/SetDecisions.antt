-- What an atom stands for is decided at each scalar value, and what is so decided has a set.
use Rattle.std.proofs.Common.{◌≡◌, inl, inr, ℕ, zero, suc, ◌+◌, ◌<◌, ◌≤◌, ◌↔◌, Bool, true, false, not, ◌||◌, if◌then◌else◌, IsTrue, List, [], ◌∷◌, sym, ap, subst, ◌∙◌, arith, true≢false}
use Rattle.std.proofs.lemmas.Bool.{cases_eq, or_left}
use Rattle.std.proofs.lemmas.Bool.Decides.{nat_tests}
use Rattle.unicode.specs.CaseFolding.{simple_fold}
use Rattle.rx_sets.specs.declared.items.ClassPerlKind.{ClassPerlKind}
use Rattle.rx_sets.specs.declared.items.ClassItem.{ClassItem}
use Rattle.rx_sets.specs.declared.items.ClassItem.TheVariants.{Span, Perl}
use Rattle.rx_sets.specs.Sets.{IsScalar, scalar_count, ordinal, Range, in_range, in_ranges, RiseFrom, IsSetOf, FoldsInto, FoldedIf, in_kind, InPerl}
use Rattle.rx_sets.specs.Items.{InItem, InItems, InClass}
use Rattle.rx_sets.proofs.Decisions.{Decided, decided_true, decided_le, decided_both, decided_either, decided_not, decided_below}
use Rattle.rx_sets.proofs.SetLemmas.{in_range_within, in_range_above, in_ranges_below, ordinal_below}
use Rattle.rx_sets.proofs.SetLaws.{scalar_at}
use Rattle.rx_sets.proofs.RangeLemmas.{RiseFrom-lower}

-- what atoms stand for
pub decided_scalar : (c : ℕ) → Decided (IsScalar c)
decided_scalar c = decided_either (c < 0xD800) ((0xE000 ≤ c) × (c ≤ 0x10_FFFF)) (decided_le (suc c) 0xD800)
    (decided_both (0xE000 ≤ c) (c ≤ 0x10_FFFF) (decided_le 0xE000 c) (decided_le c 0x10_FFFF))

-- the scalar value is one of which P holds, and has the same folding as another
abbrev FoldsAlike : (ℕ → Type 0) → ℕ → ℕ → Type 0
FoldsAlike P c d = IsScalar d × P d × (simple_fold c ≡ simple_fold d)

decided_folds : (P : ℕ → Type 0) → ((c : ℕ) → Decided (P c)) → (c : ℕ) → Decided (FoldsInto P c)
decided_folds P each c = elim (decided_below (FoldsAlike P c) alike 0x11_0000) [
  | inl found ↦ inl (found.0, found.2.0, found.2.1, found.2.2)
  | inr none ↦ inr (λ found. none (found.0, bound found.0 found.1, (found.1, found.2, found.3)))
]
  where
    alike : (d : ℕ) → Decided (FoldsAlike P c d)
    alike d = elim (decided_scalar d) [
      | inr none ↦ inr (λ all. none all.0)
      | inl scalar ↦ elim (each d) [
        | inr none ↦ inr (λ all. none all.1)
        | inl is ↦ elim (cases_eq (simple_fold c) (simple_fold d)) [
          | inr none ↦ inr (λ all. none all.2)
          | inl same ↦ inl (scalar, is, same)
        ]
      ]
    ]

    bound : (d : ℕ) → IsScalar d → d < 0x11_0000
    bound d scalar = grind arith

pub decided_folded : (fold : Bool) (P : ℕ → Type 0) → ((c : ℕ) → Decided (P c)) → (c : ℕ) → Decided (FoldedIf fold P c)
decided_folded true P each c = decided_folds P each c
decided_folded false P each c = each c

pub decided_perl : (kind : ClassPerlKind) (negated : Bool) (c : ℕ) → Decided (InPerl kind negated c)
decided_perl kind negated c = decided_true (if negated then not (in_kind kind c) else in_kind kind c)

decided_item : (c : ℕ) (item : ClassItem) → Decided (InItem c item)
decided_item c (Span low high) = decided_both (low ≤ c) (c ≤ high) (decided_le low c) (decided_le c high)
decided_item c (Perl kind negated) = decided_perl kind negated c

decided_items : (c : ℕ) (items : List ClassItem) → Decided (InItems c items)
decided_items c [] = inr (λ none. none)
decided_items c (item ∷ items) = decided_either (InItem c item) (InItems c items) (decided_item c item) (decided_items c items)

pub decided_class : (fold negated : Bool) (items : List ClassItem) (c : ℕ) → Decided (InClass fold negated items c)
decided_class fold false items c = decided_folded fold (λ d. InItems d items) (λ d. decided_items d items) c
decided_class fold true items c =
    decided_not (FoldedIf fold (λ d. InItems d items) c) (decided_folded fold (λ d. InItems d items) (λ d. decided_items d items) c)

-- ranges with one ordinal more, which is below all of theirs
record Added (n : ℕ) (ranges new : List Range) : Type 0 where
  rise : RiseFrom n new
  here : in_ranges new n ≡ true
  others : (k : ℕ) → n < k → in_ranges new k ≡ in_ranges ranges k

one_more : (n : ℕ) (ranges : List Range) → n < scalar_count → RiseFrom (n + 2) ranges → Added n ranges ((n, n) ∷ ranges)
one_more n ranges below rise = record {
  rise = (omega arith, omega arith, below, rise);
  here = or_left _ _ (in_range_within n (n, n) (omega arith) (omega arith));
  others = λ k above. ap (λ b. b || in_ranges ranges k) (in_range_above k (n, n) above);
}

one_longer : (n : ℕ) (range : Range) (ranges : List Range) → range.0 ≡ n + 1 → RiseFrom (n + 1) (range ∷ ranges) → Added n (range ∷ ranges) ((n, range.1) ∷ ranges)
one_longer n range ranges next rise = record {
  rise = (omega arith, omega (arith, rise.1, next), rise.2, rise.3);
  here = or_left _ _ (in_range_within n (n, range.1) (omega arith) (omega (arith, rise.1, next)));
  others = λ k above. ap (λ b. b || in_ranges ranges k) (same n k range next above);
}
  where
    same : (n k : ℕ) (range : Range) → range.0 ≡ n + 1 → n < k → in_range k (n, range.1) ≡ in_range k range
    same n k range next above = grind (arith, nat_tests)

added : (n : ℕ) (ranges : List Range) → n < scalar_count → RiseFrom (n + 1) ranges → (new : List Range) × Added n ranges new
added n [] below rise = ((n, n) ∷ [], one_more n [] below tt)
added n (range ∷ ranges) below rise = elim (cases_eq range.0 (n + 1)) [
  | inl next ↦ ((n, range.1) ∷ ranges, one_longer n range ranges next rise)
  | inr apart ↦ ((n, n) ∷ range ∷ ranges, one_more n (range ∷ ranges) below (omega (arith, rise.0, apart), rise.1, rise.2, rise.3))
]

-- the ranges of the ordinals from one on of which Q holds
record RangesFrom (Q : ℕ → Type 0) (n : ℕ) : Type 0 where
  ranges : List Range
  rise : RiseFrom n ranges
  members : (k : ℕ) → n ≤ k → k < scalar_count → IsTrue (in_ranges ranges k) ↔ Q k

with_first : (Q : ℕ → Type 0) (n : ℕ) → n < scalar_count → Q n → RangesFrom Q (n + 1) → RangesFrom Q n
with_first Q n below is later =
    let found = added n later.ranges below later.rise in
    record {
      ranges = found.0;
      rise = found.1.rise;
      members = λ k low high. elim (cases_eq k n) [
        | inl e ↦ (λ _. subst Q (sym e) is, λ _. ap (in_ranges found.0) e ∙ found.1.here)
        | inr other ↦
            let iff = later.members k (omega (arith, low, other)) high in
            let same : in_ranges found.0 k ≡ in_ranges later.ranges k = found.1.others k (omega (arith, low, other)) in
            (λ h. iff.0 (sym same ∙ h), λ q. same ∙ iff.1 q)
      ];
    }

without_first : (Q : ℕ → Type 0) (n : ℕ) → (Q n → ⊥) → RangesFrom Q (n + 1) → RangesFrom Q n
without_first Q n none later = record {
  ranges = later.ranges;
  rise = RiseFrom-lower (n + 1) n later.ranges later.rise (omega arith);
  members = λ k low high. elim (cases_eq k n) [
    | inl e ↦ (
      λ h. absurd (true≢false (sym h ∙ in_ranges_below (n + 1) k later.ranges later.rise (omega (arith, e)))),
      λ q. absurd (none (subst Q e q)),
    )
    | inr other ↦ later.members k (omega (arith, low, other)) high
  ];
}

ranges_from : (Q : ℕ → Type 0) → ((n : ℕ) → Decided (Q n)) → (left n : ℕ) → left + n ≡ scalar_count → RangesFrom Q n
ranges_from Q each zero n is = record { ranges = []; rise = tt; members = λ k low high. absurd (omega (arith, is, low, high)) }
ranges_from Q each (suc left) n is =
    let later = ranges_from Q each left (n + 1) (omega (arith, is)) in
    elim (each n) [
      | inl here ↦ with_first Q n (omega (arith, is)) here later
      | inr none ↦ without_first Q n none later
    ]

scalar_at-ordinal : (c : ℕ) → IsScalar c → scalar_at (ordinal c) ≡ c
scalar_at-ordinal c scalar = grind (arith, nat_tests)

-- what is decided at each number has a set
pub set_of : (P : ℕ → Type 0) → ((c : ℕ) → Decided (P c)) → (ranges : List Range) × IsSetOf ranges P
set_of P each =
    let found = ranges_from (λ n. P (scalar_at n)) (λ n. each (scalar_at n)) scalar_count 0 (omega arith) in (
      found.ranges,
      record {
        canonical = found.rise;
        members = λ c scalar.
            let iff = found.members (ordinal c) (omega arith) (ordinal_below c scalar) in
            (λ h. subst P (scalar_at-ordinal c scalar) (iff.0 h), λ p. iff.1 (subst P (sym (scalar_at-ordinal c scalar)) p));
      },
    )
