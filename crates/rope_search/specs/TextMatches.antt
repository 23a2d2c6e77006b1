-- The first matches in a buffer's whole text that start at a position or after it.
use Rattle.std.specs.Prelude.{◌≡◌, ℕ, List, ◌++◌, take, drop, map, length, min, nat_le, None, Some, Result, Ok, Err}
use Rattle.std.specs.List.{filter}
use Rattle.rope_search_io.specs.declared.faults.Fault.{Fault}
use Rattle.rope_search_io.specs.declared.faults.Fault.TheVariants.{Nothing, Range, Memory}
use Rattle.rope_search_reports.specs.declared.positions.Position.{Position}
use Rattle.rope_search_reports.specs.Matches.{IsMatches}
use Rattle.rope_search_reports.specs.Position.{IsAt, IsNowhere, column_at, line_at}
use Rattle.rope_search_reports.specs.Text.{bytes_of}
use Rattle.rope_search.specs.declared.text_matches.TextMatch.{TextMatch}
use Rattle.rope_search.specs.Session.{BufferState, current_text}

-- the position of an offset
abbrev pub position_at : List ℕ → ℕ → Position
position_at text place = record { line = line_at text place; column = column_at text place }

-- a match in a text, by the positions where it starts and where it ends
abbrev pub match_at : List ℕ → ℕ × ℕ → TextMatch
match_at text span = record { start = position_at text span.0; end = position_at text span.1 }

-- those of some spans that start at an offset or after it
abbrev pub starting_from : ℕ → List (ℕ × ℕ) → List (ℕ × ℕ)
starting_from place spans = filter (λ span. nat_le place span.0) spans

-- These are the matches of a pattern in a whole text that start at a position or after it: of all
-- matches, found one after the other from the text's start. `replace` replaces the same matches.
pub record AreMatchesFrom (text pattern : List ℕ) (from : Position) (matches : List TextMatch)
    : Type 0 where
  pub place : ℕ
  pub spans : List (ℕ × ℕ)
  pub starts : IsAt text (from.line, from.column) place
  pub are : IsMatches pattern (bytes_of text) spans
  pub matches_are : matches ≡ map (match_at text) (starting_from place spans)

-- matches are copied to the start of a list: the first ones, as many as it has room for, and this
-- is their number
pub record CopiesFirst (matches : List TextMatch) (count : ℕ) (old new : List TextMatch)
    : Type 0 where
  pub counted : count ≡ min (length old) (length matches)
  pub copied : new ≡ take (length old) matches ++ drop (length matches) old

-- so the matches of a pattern in a whole text that start at a position or after it are copied
pub record CopiesMatchesFrom (text pattern : List ℕ) (from : Position) (count : ℕ)
    (old new : List TextMatch) : Type 0 where
  pub matches : List TextMatch
  pub are : AreMatchesFrom text pattern from matches
  pub copies : CopiesFirst matches count old new

-- ---- in a buffer

-- so those of the buffer's pattern in its current text are copied
pub record CopiesNextAll (buffer : BufferState) (from : Position) (count : ℕ)
    (old new : List TextMatch) : Type 0 where
  pub pattern : List ℕ
  pub is_pattern : buffer.pattern ≡ Some pattern
  pub copies : CopiesMatchesFrom (current_text buffer) pattern from count old new

-- The answer: the number of copied matches; or that there is no pattern, or else that the position
-- is nowhere in the text, or else that there was no memory. If it is refused, the list stays.
abbrev pub AnswersNextAll : BufferState → Position → Result ℕ Fault → List TextMatch
    → List TextMatch → Type 0
AnswersNextAll buffer from (Ok count) old new = CopiesNextAll buffer from count old new
AnswersNextAll buffer from (Err Nothing) old new = (buffer.pattern ≡ None) × (new ≡ old)
AnswersNextAll buffer from (Err Range) old new = (buffer.pattern ≡ None → ⊥)
    × IsNowhere (current_text buffer) (from.line, from.column) × (new ≡ old)
AnswersNextAll buffer from (Err Memory) old new = (buffer.pattern ≡ None → ⊥)
    × (IsNowhere (current_text buffer) (from.line, from.column) → ⊥) × (new ≡ old)
AnswersNextAll buffer from (Err fault) old new = ⊥
