-- Sets of scalar values, as ranges, and the sets of letter classes.
use Rattle.std.specs.Prelude.{◌≡◌, ℕ, ◌+◌, ◌-◌, ◌<◌, ◌≤◌, ◌↔◌, ◌⊎◌, Bool, true, false, not, ◌&&◌, ◌||◌, IsTrue, nat_le, nat_lt, List, [], ◌∷◌, if◌then◌else◌}
use Rattle.std.specs.List.{list_any}
use Rattle.unicode.specs.CaseFolding.{simple_fold}
use Rattle.unicode.specs.Perl.{is_word_char, is_digit_char, is_space_char}
use Rattle.rx_sets.specs.declared.items.ClassPerlKind.{ClassPerlKind}
use Rattle.rx_sets.specs.declared.items.ClassPerlKind.TheVariants.{Digit, Space, Word}

-- a Unicode scalar value: a code point that is no surrogate
abbrev pub IsScalar : ℕ → Type 0
IsScalar c = (c < 0xD800) ⊎ ((0xE000 ≤ c) × (c ≤ 0x10_FFFF))

-- the same, as a test
abbrev pub is_scalar : ℕ → Bool
is_scalar c = nat_lt c 0xD800 || (nat_le 0xE000 c && nat_le c 0x10_FFFF)

-- the number of scalar values
abbrev pub scalar_count : ℕ
scalar_count = 0x10_F800

-- the number of scalar values below this one, so that U+D7FF and U+E000 are neighbours
abbrev pub ordinal : ℕ → ℕ
ordinal c = if nat_lt c 0xD800 then c else c - 0x800

-- the ordinals of the first and the last scalar value of a range
abbrev pub Range : Type 0
Range = ℕ × ℕ

-- the ordinals from `start` to `end`, exclusive, if there are any
abbrev pub part : ℕ → ℕ → List Range
part start end = if nat_lt start end then (start, end - 1) ∷ [] else []

abbrev pub in_range : ℕ → Range → Bool
in_range n range = nat_le range.0 n && nat_le n range.1

-- an ordinal is in one of the ranges
abbrev pub in_ranges : List Range → ℕ → Bool
in_ranges ranges n = list_any (in_range n) ranges

-- a scalar value is in one of the ranges
abbrev pub Holds : List Range → ℕ → Type 0
Holds ranges c = IsTrue (in_ranges ranges (ordinal c))

-- each range has a member and ends below the number of scalar values; the first starts at n or
-- later, and between two of them is a scalar value that is in neither
abbrev pub RiseFrom : ℕ → List Range → Type 0
RiseFrom n [] = Unit {0}
RiseFrom n (range ∷ ranges) = (n ≤ range.0) × (range.0 ≤ range.1) × (range.1 < scalar_count) × RiseFrom (range.1 + 2) ranges

-- the ranges are the maximal ranges of a set, in order
abbrev pub IsCanonical : List Range → Type 0
IsCanonical ranges = RiseFrom 0 ranges

-- the maximal ranges of the set of all scalar values for which P holds
pub record IsSetOf (ranges : List Range) (P : ℕ → Type 0) : Type 0 where
  pub canonical : IsCanonical ranges
  pub members : (c : ℕ) → IsScalar c → Holds ranges c ↔ P c

-- the scalar values with the same simple case folding as one for which P holds
abbrev pub FoldsInto : (ℕ → Type 0) → ℕ → Type 0
FoldsInto P c = (d : ℕ) × IsScalar d × P d × (simple_fold c ≡ simple_fold d)

-- the ranges have exactly these ordinals, below the number of scalar values
abbrev pub HasExactly : List Range → (ℕ → Bool) → Type 0
HasExactly ranges p = (n : ℕ) → n < scalar_count → in_ranges ranges n ≡ p n

-- P, closed under folding if `fold` is true
abbrev pub FoldedIf : Bool → (ℕ → Type 0) → ℕ → Type 0
FoldedIf fold P c = elim fold [ true ↦ FoldsInto P c | false ↦ P c ]

-- the scalar value is in the letter class
abbrev pub in_kind : ClassPerlKind → ℕ → Bool
in_kind Digit c = is_digit_char c
in_kind Space c = is_space_char c
in_kind Word c = is_word_char c

-- `\d`, `\s` and `\w`; a capital letter negates them
abbrev pub InPerl : ClassPerlKind → Bool → ℕ → Type 0
InPerl kind negated c = IsTrue (if negated then not (in_kind kind c) else in_kind kind c)
