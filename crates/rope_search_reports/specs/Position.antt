-- Positions: a line and a column, for an offset in a text. An offset is a number of bytes of its
-- UTF-8.
use Rattle.std.specs.Prelude.{◌≡◌, ℕ, ◌+◌, ◌-◌, ◌<◌, ◌≤◌, ◌⊎◌, List, [], ◌++◌, length, take, drop, slice_index_or, chars}
use Rattle.std.specs.Str.{IsCharBoundary, NonePass}
use Rattle.str_indices.specs.Text.{byte_len, break_ends, ends_up_to, end_place, units, NoCrLfBetween}
use Rattle.ropey.specs.Chunks.{is_break}
use Rattle.str_indices.specs.FirstBreak.{IsBreak}
use Rattle.rope_search_reports.specs.declared.positions.Place.{Place}
use Rattle.rope_search_reports.specs.Text.{bytes_of, line_count}
use Rattle.rope_search_reports.specs.Report.{line_texts}

-- the line that contains an offset: the number of breaks that end there or before
abbrev pub line_at : List ℕ → ℕ → ℕ
line_at text place = ends_up_to place (break_ends is_break text)

-- where a line starts: at the end of the break before it, the first one at 0
abbrev pub line_start : List ℕ → ℕ → ℕ
line_start text line = end_place (break_ends is_break text) line (length (bytes_of text))

-- the number of code units from the start of the offset's line up to the offset
abbrev pub column_at : List ℕ → ℕ → ℕ
column_at text place =
    let start = line_start text (line_at text place) in
    units (chars (take (place - start) (drop start (bytes_of text))))

-- the position of a boundary: its line and its column
abbrev pub position : List ℕ → ℕ → ℕ × ℕ
position text place = (line_at text place, column_at text place)

-- a line's text
abbrev pub line_text : List ℕ → ℕ → List ℕ
line_text text line = slice_index_or (line_texts text) line []

-- where a line's text ends: before its break
abbrev pub text_end : List ℕ → ℕ → ℕ
text_end text line = line_start text line + byte_len (line_text text line)

-- the offset of the position: a boundary, in the line's text or at its end
pub record IsAt (text : List ℕ) (spot : ℕ × ℕ) (place : ℕ) : Type 0 where
  pub boundary : IsCharBoundary (bytes_of text) place
  pub same : spot ≡ position text place
  pub within : place ≤ text_end text spot.0

-- the position has no offset: it is inside a character or a break, after its line's text, or past
-- the last line
abbrev pub IsNowhere : List ℕ → ℕ × ℕ → Type 0
IsNowhere text spot = (place : ℕ) → IsAt text spot place → ⊥

-- the offset of a position, in bytes and in characters
pub record IsPlaceOf (text : List ℕ) (spot : ℕ × ℕ) (place : Place) : Type 0 where
  pub at : IsAt text spot place.byte_idx
  pub within : place.char_idx ≤ length text
  pub bytes : byte_len (take place.char_idx text) ≡ place.byte_idx

-- a match in a line, given by two columns, starts and ends at a boundary of the text, and each is
-- at its column of that line
pub record StandsAtBoundaries (text : List ℕ) (line : ℕ) (shown : ℕ × ℕ) : Type 0 where
  pub start : ℕ
  pub end : ℕ
  pub starts : IsAt text (line, shown.0) start
  pub ends : IsAt text (line, shown.1) end
  pub ordered : start ≤ end

-- ---- a line in its text

-- the last line: its text ends where the whole text ends
pub record IsLastLine (text : List ℕ) (line : ℕ) (behind : List ℕ) : Type 0 where
  pub last : line + 1 ≡ line_count text
  pub nothing : behind ≡ []
  pub ends : text_end text line ≡ byte_len text

-- another line: its text is followed by one break, and then the next line starts
pub record EndsInBreak (text : List ℕ) (line : ℕ) (behind : List ℕ) : Type 0 where
  pub more : line + 1 < line_count text
  pub one : List ℕ
  pub rest : List ℕ
  pub splits : behind ≡ one ++ rest
  pub is : IsBreak is_break one rest
  pub next : line_start text (line + 1) ≡ text_end text line + byte_len one

-- From where a line starts to where its text ends are the bytes of that text, followed by the
-- line's break, if it has one. No line starts between the CR and the LF of a break, and no
-- character of the break set is in a line's text.
pub record LiesInPlace (text : List ℕ) (line : ℕ) : Type 0 where
  pub before : List ℕ
  pub behind : List ℕ
  pub parts : text ≡ before ++ (line_text text line ++ behind)
  pub starts : line_start text line ≡ byte_len before
  pub whole : NoCrLfBetween before (line_text text line ++ behind)
  pub plain : NonePass is_break (line_text text line)
  pub ends : text_end text line ≡ byte_len (before ++ line_text text line)
  pub bytes : take (text_end text line - line_start text line)
      (drop (line_start text line) (bytes_of text)) ≡ bytes_of (line_text text line)
  pub ended : IsLastLine text line behind ⊎ EndsInBreak text line behind
