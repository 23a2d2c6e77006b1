-- Edits by byte offsets: the edits between the positions of two offsets.
use Rattle.std.specs.Prelude.{◌≡◌, ℕ, ◌≤◌, List}
use Rattle.rope_search_reports.specs.Position.{IsAt}
use Rattle.rope_search_reports.specs.declared.positions.Position.{Position}

-- the positions are at these two offsets of the text, the first at the first. No position is at an
-- offset inside a character, or between the CR and the LF of a break
pub record AreAtBytes (text : List ℕ) (from to : ℕ) (start stop : Position) : Type 0 where
  pub starts : IsAt text (start.line, start.column) from
  pub ends : IsAt text (stop.line, stop.column) to

-- P holds of the two positions at these offsets
pub record ForBytes (text : List ℕ) (from to : ℕ) (P : Position → Position → Type 0) : Type 0 where
  pub start : Position
  pub stop : Position
  pub at : AreAtBytes text from to start stop
  pub holds : P start stop

-- no two positions are at these offsets in order
abbrev pub AreNoRange : List ℕ → ℕ → ℕ → Type 0
AreNoRange text from to =
    (start stop : Position) → AreAtBytes text from to start stop → from ≤ to → ⊥
