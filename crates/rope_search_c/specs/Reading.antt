-- The calls that read a session's chosen buffer.
use Rattle.std.specs.Prelude.{◌≡◌, ℕ, ◌+◌, ◌-◌, ◌<◌, ◌≤◌, ◌⊎◌, List, [], ◌∷◌, ◌++◌, take, drop, map, length, slice_index_or, Bool, true, false, Some}
use Rattle.std.specs.Str.{IsCharBoundary}
use Rattle.ropey.specs.Slices.{between, IsByteRangeIn}
use Rattle.rope_search_reports.specs.Text.{bytes_of}
use Rattle.rope_search_reports.specs.Report.{match_count}
use Rattle.rope_search_reports.specs.Position.{IsAt, IsNowhere, position}
use Rattle.rope_search_reports.specs.declared.positions.Position.{Position}
use Rattle.rope_search.specs.Encodings.{IsAtIn, IsNowhereIn}
use Rattle.rope_search.specs.declared.encodings.Encoding.{Encoding}
use Rattle.rope_search.specs.declared.encodings.Encoding.TheVariants.{Utf8, Utf16, Utf32}
use Rattle.rope_search.specs.Session.{IsReportIn, chosen_buffer, current_text}
use Rattle.rope_search.specs.Stretches.{none}
use Rattle.rope_search.specs.declared.stretches.Stretch.{Stretch}
use Rattle.rope_search_c.specs.declared.counting.CountingSession.{CountingSession}
use Rattle.rope_search_c.specs.declared.matches.Span.{Span}

-- its text, and the UTF-8 of that
abbrev pub text_in : CountingSession → List ℕ
text_in session = current_text (chosen_buffer session.session.state)

abbrev pub text_bytes_in : CountingSession → List ℕ
text_bytes_in session = bytes_of (text_in session)

-- its report, which has no rows without a pattern
abbrev pub AreRowsOf : CountingSession → List (List (ℕ × ℕ)) → Type 0
AreRowsOf session rows = IsReportIn (chosen_buffer session.session.state) rows

-- rows `from` up to `to`, or as many of these as there are
abbrev pub rows_between : ℕ → ℕ → List (List (ℕ × ℕ)) → List (List (ℕ × ℕ))
rows_between from to rows = take (to - from) (drop from rows)

-- the number of the report's rows
pub record CountsRows (session : CountingSession) (count : ℕ) : Type 0 where
  pub rows : List (List (ℕ × ℕ))
  pub are : AreRowsOf session rows
  pub counted : count ≡ length rows

-- the number of matches in rows `from` up to `to` of the report
pub record CountsMatches (session : CountingSession) (from to count : ℕ) : Type 0 where
  pub rows : List (List (ℕ × ℕ))
  pub are : AreRowsOf session rows
  pub counted : count ≡ match_count (rows_between from to rows)

-- the rows of the report that were replaced last
abbrev pub changed_in : CountingSession → Stretch
changed_in session =
    slice_index_or session.session.changed session.session.state.chosen none

-- ---- offsets of positions, and positions of offsets

-- the byte offset of a position, with status 0; or the position is nowhere, with status 2, and the
-- output is unchanged
abbrev pub TellsByte : CountingSession → Position → ℕ → ℕ → ℕ → Type 0
TellsByte session position status old new =
    ((status ≡ 0) × IsAt (text_in session) (position.line, position.column) new)
    ⊎ ((status ≡ 2) × IsNowhere (text_in session) (position.line, position.column) × (new ≡ old))

-- the position of an offset at which a character starts or the text ends, with status 0; or neither
-- is there, with status 2, and the output is unchanged
abbrev pub TellsPosition : CountingSession → ℕ → ℕ → Position → Position → Type 0
TellsPosition session byte status old new =
    ((status ≡ 0) × IsCharBoundary (text_bytes_in session) byte
    × ((new.line, new.column) ≡ position (text_in session) byte))
    ⊎ ((status ≡ 2) × (IsCharBoundary (text_bytes_in session) byte → ⊥) × (new ≡ old))

-- ---- columns in bytes, in code units and in characters

-- how C names the unit of columns
abbrev pub bits_of : Encoding → ℕ
bits_of Utf8 = 8
bits_of Utf16 = 16
bits_of Utf32 = 32

-- the column of a position, with status 0; or the position is nowhere, or the unit has no such
-- name, with status 2, and the output is unchanged
abbrev pub TellsColumn : CountingSession → ℕ → Position → ℕ → ℕ → ℕ → Type 0
TellsColumn session bits spot status old new =
    ((encoding : Encoding) × (place : ℕ) × (bits ≡ bits_of encoding) × (status ≡ 0)
    × IsAt (text_in session) (spot.line, spot.column) place
    × IsAtIn encoding (text_in session) spot.line new place)
    ⊎ ((status ≡ 2) × (new ≡ old) × ((encoding : Encoding) → bits ≡ bits_of encoding
    → IsNowhere (text_in session) (spot.line, spot.column)))

-- the position of a line and a column, with status 0; or they are nowhere, or the unit has no such
-- name, with status 2, and the output is unchanged
abbrev pub TellsPositionIn : CountingSession → ℕ → ℕ → ℕ → ℕ → Position → Position → Type 0
TellsPositionIn session bits line column status old new =
    ((encoding : Encoding) × (place : ℕ) × (bits ≡ bits_of encoding) × (status ≡ 0)
    × IsAtIn encoding (text_in session) line column place
    × IsAt (text_in session) (new.line, new.column) place)
    ⊎ ((status ≡ 2) × (new ≡ old) × ((encoding : Encoding) → bits ≡ bits_of encoding
    → IsNowhereIn encoding (text_in session) line column))

-- ---- a caller's buffer

-- a buffer with its first elements replaced by these, as many as it has room for
abbrev pub with_front : {X : Type 0} → List X → List X → List X
with_front elements buffer = take (length buffer) elements ++ drop (length elements) buffer

-- a match of a line, and the matches of rows in order, the first of which is that of this line
abbrev pub span_in : ℕ → ℕ × ℕ → Span
span_in line columns = record { line = line; start = columns.0; stop = columns.1 }

unfoldable pub spans_from : ℕ → List (List (ℕ × ℕ)) → List Span
spans_from line [] = []
spans_from line (row ∷ rows) = map (span_in line) row ++ spans_from (line + 1) rows

-- the matches of rows `from` up to `to` of the report are at the buffer's start, as many as fit,
-- and this is their number
pub record CopiesMatches (session : CountingSession) (from to count : ℕ)
    (old new : List Span) : Type 0 where
  pub rows : List (List (ℕ × ℕ))
  pub are : AreRowsOf session rows
  pub counted : count ≡ match_count (rows_between from to rows)
  pub copied : new ≡ with_front (spans_from from (rows_between from to rows)) old

-- bytes `from` up to `to` are bytes of the text and start and end at character boundaries
abbrev pub AreBytesIn : CountingSession → ℕ → ℕ → Type 0
AreBytesIn session from to =
    IsByteRangeIn (text_in session) (record { start = Some from; end = Some to })

-- they do and fit, and are at the buffer's start; otherwise the buffer is unchanged
abbrev pub CopiesText : CountingSession → ℕ → ℕ → Bool → List ℕ → List ℕ → Type 0
CopiesText session from to true old new =
    AreBytesIn session from to × (to - from ≤ length old)
    × (new ≡ with_front (between from to (text_bytes_in session)) old)
CopiesText session from to false old new =
    (AreBytesIn session from to → length old < to - from) × (new ≡ old)
