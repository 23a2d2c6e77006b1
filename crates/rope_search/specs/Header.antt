-- The parts of a command's line: its word, its positions and its number.
use Rattle.std.specs.Prelude.{◌≡◌, ◌≢◌, ℕ, ◌^◌, ◌<◌, ◌≤◌, ◌⊎◌, ◌↔◌, List, [], ◌∷◌, ◌++◌, length}
use Rattle.std.specs.List.{AllByRecursion}
use Rattle.rope_search.specs.declared.commands.CommandOf.{CommandOf}
use Rattle.rope_search.specs.Order.{Order, IsOf}
use Rattle.rope_search.specs.Reads.{digits_after, AreSpelled}

-- the command has this word, these positions and this number, of the payload's bytes or of a buffer
abbrev pub IsHeaderOf : CommandOf ℕ → Order → Type 0
IsHeaderOf header order = IsOf (λ limit n payload. length payload ≡ n) 0 header order

abbrev pub IsDigit : ℕ → Type 0
IsDigit digit = (48 ≤ digit) × (digit ≤ 57)

-- decimal digits that spell this number, after those of another one
pub record Spelling (before : ℕ) (digits : List ℕ) (n : ℕ) : Type 0 where
  pub decimal : AllByRecursion IsDigit digits
  pub value : digits_after before digits ≡ n
  pub fits : n < 2 ^ 64

-- none of these bytes is a space
abbrev pub HasNoSpace : List ℕ → Type 0
HasNoSpace bytes = AllByRecursion (λ b. b ≢ 32) bytes

-- a number ends before these bytes: there are none, or the first is a space
abbrev pub EndsNumber : List ℕ → Type 0
EndsNumber bytes = (bytes ≡ []) ⊎ ((more : List ℕ) × (bytes ≡ 32 ∷ more))

-- the numbers that the bytes spell are these, followed by those of the remaining bytes
abbrev pub SpellsFront : List ℕ → List ℕ → List ℕ → Type 0
SpellsFront bytes first rest =
    (ns : List ℕ) → AreSpelled ns bytes
    ↔ ((others : List ℕ) × (ns ≡ first ++ others) × AreSpelled others rest)
