-- How a text starts. A text is a list of scalar values; ASCII characters are written as their
-- codes.
use Rattle.std.specs.Prelude.{◌≡◌, ℕ, Bool, false, List, [], ◌∷◌}

-- the text starts with this character
abbrev pub Begins : ℕ → List ℕ → Type 0
Begins c [] = ⊥
Begins c (first ∷ others) = first ≡ c

-- the text ends here, or its first character doesn't pass the test
abbrev pub Stops : (ℕ → Bool) → List ℕ → Type 0
Stops test [] = Unit {0}
Stops test (first ∷ others) = test first ≡ false
