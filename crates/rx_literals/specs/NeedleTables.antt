-- How far a search may move on past a byte, by the three bytes that needles begin with.
use Rattle.std.specs.Prelude.{◌≡◌, ℕ, ◌+◌, ◌<◌, ◌≤◌, List, length, get_or, All}

-- a needle may occur at an offset: past the three bytes there a search moves by at most 2, 1 and 0
pub record MayOccurAt (shifts : List ℕ) (bytes : List ℕ) (i : ℕ) : Type 0 where
  pub fits : i + 2 < length bytes
  pub first : get_or shifts (get_or bytes i 0) 3 ≤ 2
  pub second : get_or shifts (get_or bytes (i + 1) 0) 3 ≤ 1
  pub third : get_or shifts (get_or bytes (i + 2) 0) 3 ≡ 0

-- each of the needles has three bytes or more, and may occur where it is
abbrev pub BeginInTable : List ℕ → List (List ℕ) → Type 0
BeginInTable shifts needles = All (λ needle. MayOccurAt shifts needle 0) needles
