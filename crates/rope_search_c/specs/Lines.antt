-- Lines of a session's chosen buffer, columns in a unit that C names, and edits by bytes.
use Rattle.std.specs.Prelude.{◌≡◌, ℕ, ◌<◌, ◌≤◌, ◌⊎◌, List, length, Bool, true, false}
use Rattle.str_indices.specs.Text.{byte_len}
use Rattle.rope_search_reports.specs.Report.{match_count}
use Rattle.rope_search_reports.specs.Position.{line_text}
use Rattle.rope_search_reports.specs.Text.{bytes_of, line_count}
use Rattle.rope_search_reports.specs.declared.positions.Position.{Position}
use Rattle.rope_search.specs.ByteEdits.{AreAtBytes, AreNoRange}
use Rattle.rope_search.specs.LineColumns.{IsClamped, length_in, rows_as}
use Rattle.rope_search.specs.declared.commands.CommandOf.TheVariants.{Edit as EditText}
use Rattle.rope_search.specs.declared.encodings.Encoding.{Encoding}
use Rattle.rope_search_c.specs.Calls.{DoesOrder}
use Rattle.rope_search_c.specs.Reading.{AreRowsOf, bits_of, rows_between, spans_from, text_in, with_front}
use Rattle.rope_search_c.specs.declared.counting.CountingSession.{CountingSession}
use Rattle.rope_search_c.specs.declared.matches.Span.{Span}

-- no unit of columns has this name
abbrev pub NamesNone : ℕ → Type 0
NamesNone bits = (encoding : Encoding) → bits ≡ bits_of encoding → ⊥

-- the position to which a line and a column are clamped, with status 0; or the unit has no such
-- name, with status 2, and the position is unchanged
abbrev pub TellsClamped : CountingSession → ℕ → ℕ → ℕ → ℕ → Position → Position → Type 0
TellsClamped session bits line column status old new =
    ((encoding : Encoding) × (bits ≡ bits_of encoding) × (status ≡ 0)
    × IsClamped encoding (text_in session) line column new)
    ⊎ ((status ≡ 2) × (new ≡ old) × NamesNone bits)

-- the length of a line's text, with status 0; or there is no such line, or the unit has no such
-- name, with status 2, and the length is unchanged
abbrev pub TellsLineLen : CountingSession → ℕ → ℕ → ℕ → ℕ → ℕ → Type 0
TellsLineLen session line bits status old new =
    ((encoding : Encoding) × (bits ≡ bits_of encoding) × (status ≡ 0)
    × (line < line_count (text_in session))
    × (new ≡ length_in encoding (line_text (text_in session) line)))
    ⊎ ((status ≡ 2) × (new ≡ old) × ((encoding : Encoding) → bits ≡ bits_of encoding
    → line_count (text_in session) ≤ line))

-- the line's text fits, and is at the buffer's start; or there is no such line, or its text doesn't
-- fit, and the buffer is unchanged
abbrev pub CopiesLine : CountingSession → ℕ → Bool → List ℕ → List ℕ → Type 0
CopiesLine session line true old new =
    (line < line_count (text_in session))
    × (byte_len (line_text (text_in session) line) ≤ length old)
    × (new ≡ with_front (bytes_of (line_text (text_in session) line)) old)
CopiesLine session line false old new =
    (line < line_count (text_in session)
    → length old < byte_len (line_text (text_in session) line)) × (new ≡ old)

-- the matches of rows `from` up to `to` of the report, with columns in an encoding, are at the
-- buffer's start, as many as fit, and this is their number
pub record CopiesMatchesAs (session : CountingSession) (encoding : Encoding) (from to count : ℕ)
    (old new : List Span) : Type 0 where
  pub rows : List (List (ℕ × ℕ))
  pub are : AreRowsOf session rows
  pub counted : count ≡ match_count (rows_between from to rows)
  pub copied : new ≡ with_front
      (spans_from from (rows_as encoding (text_in session) from (rows_between from to rows))) old

-- they are, in the unit that C names; or the unit has no such name, the result is 0, and the buffer
-- is unchanged
abbrev pub CopiesMatchesIn : CountingSession → ℕ → ℕ → ℕ → ℕ → List Span → List Span → Type 0
CopiesMatchesIn session bits from to count old new =
    ((encoding : Encoding) × (bits ≡ bits_of encoding)
    × CopiesMatchesAs session encoding from to count old new)
    ⊎ (NamesNone bits × (count ≡ 0) × (new ≡ old))

-- the session makes the edit between the positions of two offsets; or no two positions are at them
-- in order, with status 2, and nothing changes; the text that arrives stays
pub record EditsBytes (old : CountingSession) (from to : ℕ) (bytes : List ℕ) (status : ℕ)
    (new : CountingSession) : Type 0 where
  pub edits : (start stop : Position) → AreAtBytes (text_in old) from to start stop
      → DoesOrder old (EditText start stop bytes) status new
  pub nowhere : AreNoRange (text_in old) from to → (status ≡ 2) × (new ≡ old)
  pub arriving : new.arriving ≡ old.arriving
