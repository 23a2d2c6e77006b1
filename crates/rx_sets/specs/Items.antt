-- The items of a class.
use Rattle.std.specs.Prelude.{ℕ, ◌≤◌, ◌⊎◌, Bool, true, false, List, [], ◌∷◌}
use Rattle.rx_sets.specs.declared.items.ClassItem.{ClassItem}
use Rattle.rx_sets.specs.declared.items.ClassItem.TheVariants.{Span, Perl}
use Rattle.rx_sets.specs.Sets.{InPerl, FoldedIf}

-- the scalar value is in the item of a class
abbrev pub InItem : ℕ → ClassItem → Type 0
InItem c (Span low high) = (low ≤ c) × (c ≤ high)
InItem c (Perl kind negated) = InPerl kind negated c

-- the scalar value is in some item
abbrev pub InItems : ℕ → List ClassItem → Type 0
InItems c [] = ⊥
InItems c (item ∷ items) = InItem c item ⊎ InItems c items

-- the scalar values of a class: closed under folding if `fold` is true, and only then negated
abbrev pub InClass : Bool → Bool → List ClassItem → ℕ → Type 0
InClass fold false items c = FoldedIf fold (λ d. InItems d items) c
InClass fold true items c = ¬ (FoldedIf fold (λ d. InItems d items) c)
