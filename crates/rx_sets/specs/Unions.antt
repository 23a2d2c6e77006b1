-- How the set of an atom is put together.
use Rattle.std.specs.Prelude.{◌≡◌, ℕ, ◌-◌, ◌≤◌, ◌⊎◌, ◌↔◌, Bool, nat_lt, List, [], ◌∷◌, Contains, if◌then◌else◌}
use Rattle.rx_sets.specs.declared.items.ClassPerlKind.{ClassPerlKind}
use Rattle.rx_sets.specs.declared.items.ClassItem.{ClassItem}
use Rattle.rx_sets.specs.declared.items.ClassItem.TheVariants.{Span, Perl}
use Rattle.rx_sets.specs.Sets.{Range, IsScalar, Holds, FoldedIf, InPerl}

-- P holds of an element of the list
abbrev pub OneOf : {X : Type 0} → (X → Type 0) → List X → Type 0
OneOf P [] = ⊥
OneOf P (x ∷ xs) = P x ⊎ OneOf P xs

-- the new ranges have the scalar values of the old ones, and those for which P holds
abbrev pub Adds : List Range → List Range → (ℕ → Type 0) → Type 0
Adds old new P = (c : ℕ) → IsScalar c → Holds new c ↔ (Holds old c ⊎ P c)

-- a code point is between two others, inclusive
abbrev pub Between : ℕ → ℕ → ℕ → Type 0
Between low high c = (low ≤ c) × (c ≤ high)

-- the pair leads from a scalar value to another
abbrev pub PairLeads : ℕ → ℕ × ℕ → Type 0
PairLeads c pair = IsScalar pair.0 × (pair.1 ≡ c)

-- the pair leads to a scalar value that isn't from low to high
abbrev pub LeadsOut : ℕ → ℕ → ℕ → ℕ × ℕ → Type 0
LeadsOut low high c pair = PairLeads c pair × (¬ Between low high c)

-- a letter class, and whether it is negated
abbrev pub Letters : Type 0
Letters = ClassPerlKind × Bool

-- the scalar value is in the item, which is no letter class
abbrev pub InSpan : Bool → ℕ → ClassItem → Type 0
InSpan fold c (Span low high) = FoldedIf fold (Between low high) c
InSpan fold c (Perl kind negated) = ⊥

-- the letter class is among the items, and has the scalar value
abbrev pub InLetters : Bool → List ClassItem → ℕ → Letters → Type 0
InLetters fold items c letters = Contains items (Perl letters.0 letters.1) × FoldedIf fold (InPerl letters.0 letters.1) c

-- the number of scalar values below a code point
abbrev pub scalars_below : ℕ → ℕ
scalars_below code = if nat_lt code 0xD800 then code else if nat_lt code 0xE000 then 0xD800 else code - 0x800
