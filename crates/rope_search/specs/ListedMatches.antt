-- The matches in a report, in order: line by line, and in each line from left to right.
use Rattle.std.specs.Prelude.{◌≡◌, ℕ, ◌+◌, ◌<◌, ◌⊎◌, List, [], length, take, Option, None, Some, slice_get, slice_index_or}
use Rattle.rope_search_reports.specs.Report.{match_count}
use Rattle.rope_search_reports.specs.declared.positions.Position.{Position}
use Rattle.rope_search.specs.declared.listed.ListedMatch.{ListedMatch}
use Rattle.rope_search.specs.declared.listed.ListIndex.{ListIndex}
use Rattle.rope_search.specs.Session.{BufferState, IsReportIn}

-- the row of its line lists the match under its number
abbrev pub IsListed : List (List (ℕ × ℕ)) → ListedMatch → Type 0
IsListed rows match =
    slice_get (slice_index_or rows match.line []) match.number ≡ Some (match.start, match.end)

-- one pair is before another: by its first number, or if these are the same by its second
abbrev pub IsPairBefore : ℕ × ℕ → ℕ × ℕ → Type 0
IsPairBefore pair other = (pair.0 < other.0) ⊎ ((pair.0 ≡ other.0) × (pair.1 < other.1))

-- a match starts before a position
abbrev pub StartsBefore : Position → ListedMatch → Type 0
StartsBefore position match =
    IsPairBefore (match.line, match.start) (position.line, position.column)

-- a match is listed before another one
abbrev pub IsListedBefore : ListedMatch → ListedMatch → Type 0
IsListedBefore match other = IsPairBefore (match.line, match.number) (other.line, other.number)

-- ---- from a position on

-- the first of the listed matches that start at a position or after it
pub record IsFirstFrom (rows : List (List (ℕ × ℕ))) (position : Position)
    (match : ListedMatch) : Type 0 where
  pub listed : IsListed rows match
  pub from : StartsBefore position match → ⊥
  pub first : (other : ListedMatch) → IsListed rows other → IsListedBefore other match
      → StartsBefore position other

-- that one, or that all start before the position
abbrev pub TellsFirstFrom : List (List (ℕ × ℕ)) → Position → Option ListedMatch → Type 0
TellsFirstFrom rows position None =
    (match : ListedMatch) → IsListed rows match → StartsBefore position match
TellsFirstFrom rows position (Some match) = IsFirstFrom rows position match

-- ---- before a position

-- the last of the listed matches that start before a position
pub record IsLastBefore (rows : List (List (ℕ × ℕ))) (position : Position)
    (match : ListedMatch) : Type 0 where
  pub listed : IsListed rows match
  pub before : StartsBefore position match
  pub last : (other : ListedMatch) → IsListed rows other → IsListedBefore match other
      → StartsBefore position other → ⊥

-- that one, or that none starts before the position
abbrev pub TellsLastBefore : List (List (ℕ × ℕ)) → Position → Option ListedMatch → Type 0
TellsLastBefore rows position None =
    (match : ListedMatch) → IsListed rows match → StartsBefore position match → ⊥
TellsLastBefore rows position (Some match) = IsLastBefore rows position match

-- ---- among all

-- the number of matches before the one of a line and a number, and the number of all
pub record IsIndexIn (rows : List (List (ℕ × ℕ))) (line number : ℕ) (told : ListIndex) : Type 0 where
  pub inside : number < length (slice_index_or rows line [])
  pub index : told.index ≡ match_count (take line rows) + number
  pub count : told.count ≡ match_count rows

-- that, or that there is no such match
abbrev pub TellsIndex : List (List (ℕ × ℕ)) → ℕ → ℕ → Option ListIndex → Type 0
TellsIndex rows line number None = slice_get (slice_index_or rows line []) number ≡ None
TellsIndex rows line number (Some told) = IsIndexIn rows line number told

-- ---- in a buffer

-- P holds of the rows of the buffer's report; without a pattern there are none
pub record OfReport (buffer : BufferState) (P : List (List (ℕ × ℕ)) → Type 0) : Type 0 where
  pub rows : List (List (ℕ × ℕ))
  pub are : IsReportIn buffer rows
  pub holds : P rows
