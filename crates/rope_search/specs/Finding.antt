-- The next match in a buffer's whole text, from a position on.
use Rattle.std.specs.Prelude.{◌≡◌, ℕ, List, Option, None, Some}
use Rattle.rope_search.specs.declared.commands.Reply.{Reply}
use Rattle.rope_search.specs.declared.commands.Reply.TheVariants.{Found, NoMatch}
use Rattle.rope_search_reports.specs.declared.positions.Position.{Position}
use Rattle.rope_search_reports.specs.Text.{bytes_of}
use Rattle.rope_search_reports.specs.Pattern.{FindsSpan}
use Rattle.rope_search_reports.specs.Position.{IsAt, position}
use Rattle.rope_search.specs.Session.{BufferState, current_text}

-- The result of a search for the buffer's pattern in its current text: the span of the first match
-- at the position or after it, or none. Look-around assertions see the text before the position.
pub record FindsFromPosition (buffer : BufferState) (from : Position)
    (found : Option (ℕ × ℕ)) : Type 0 where
  pub pattern : List ℕ
  pub place : ℕ
  pub is_pattern : buffer.pattern ≡ Some pattern
  pub starts : IsAt (current_text buffer) (from.line, from.column) place
  pub finds : FindsSpan pattern (bytes_of (current_text buffer)) place found

-- the positions of two offsets
abbrev pub ArePositionsOf : List ℕ → Position → Position → ℕ × ℕ → Type 0
ArePositionsOf text start end span =
    ((start.line, start.column) ≡ position text span.0)
    × ((end.line, end.column) ≡ position text span.1)

-- the result as positions, where the match starts and where it ends, or none
abbrev pub TellsPositions : BufferState → Position → Option (Position × Position) → Type 0
TellsPositions buffer from None = FindsFromPosition buffer from None
TellsPositions buffer from (Some told) =
    (span : ℕ × ℕ) × FindsFromPosition buffer from (Some span)
    × ArePositionsOf (current_text buffer) told.0 told.1 span

-- ---- in a text, for a pattern

pub record FindsIn (text pattern : List ℕ) (from : Position) (found : Option (ℕ × ℕ)) : Type 0 where
  pub place : ℕ
  pub starts : IsAt text (from.line, from.column) place
  pub finds : FindsSpan pattern (bytes_of text) place found

abbrev pub TellsIn : List ℕ → List ℕ → Position → Option (Position × Position) → Type 0
TellsIn text pattern from None = FindsIn text pattern from None
TellsIn text pattern from (Some told) =
    (span : ℕ × ℕ) × FindsIn text pattern from (Some span)
    × ArePositionsOf text told.0 told.1 span

-- the reply with this result
abbrev pub reply_for : Option (Position × Position) → Reply
reply_for None = NoMatch
reply_for (Some told) = Found told.0 told.1
