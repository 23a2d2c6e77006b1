-- The rows of a report that a walk has passed.
use Rattle.std.proofs.Common.{◌≡◌, ℕ, ◌<◌, ◌≤◌, List}
use Rattle.rope_search_reports.specs.declared.positions.Position.{Position}
use Rattle.rope_search.specs.declared.listed.ListedMatch.{ListedMatch}
use Rattle.rope_search.specs.ListedMatches.{IsListed, StartsBefore}

-- a row is searched from this column on: in the position's line from that of the position, and in a
-- later line from its start
pub record IsColumnOf (position : Position) (line column : ℕ) : Type 0 where
  pub behind : position.line ≤ line
  pub here : line ≡ position.line → column ≡ position.column
  pub later : position.line < line → column ≡ 0

-- all matches of the lines before one start before the position
abbrev pub AllBefore : List (List (ℕ × ℕ)) → Position → ℕ → Type 0
AllBefore rows position line = (match : ListedMatch) → IsListed rows match → match.line < line → StartsBefore position match

-- no match is listed in the lines of a range
abbrev pub NoneBetween : List (List (ℕ × ℕ)) → ℕ → ℕ → Type 0
NoneBetween rows line end = (match : ListedMatch) → IsListed rows match → line ≤ match.line → match.line < end → ⊥
