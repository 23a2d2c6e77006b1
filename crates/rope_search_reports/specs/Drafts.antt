-- Words for the contracts of the code that makes a report line by line.
use Rattle.std.specs.Prelude.{◌≡◌, ◌⊎◌, ◌+◌, ◌-◌, ◌^◌, ◌<◌, ◌≤◌, List, ℕ, [], ◌∷◌, ◌++◌, None, length, take, drop, IfSome}
use Rattle.std.specs.Str.{NonePass, IsUtf8, IsCharBoundary, chars}
use Rattle.ropey.specs.Chunks.{is_break}
use Rattle.ropey.specs.Slices.{slice_text}
use Rattle.str_indices.specs.FirstBreak.{IsBreak}
use Rattle.str_indices.specs.Text.{break_ends, breaks, byte_len, char_ends, ends_up_to, units, NoCrLfBetween}
use Rattle.regex_cursor.specs.Patterns.{between}
use Rattle.rope_search_reports.specs.Pattern.{FindsMatch}
use Rattle.rope_search_reports.specs.Text.{IsText, line_count}
use Rattle.rope_search_reports.specs.Position.{line_at, line_start, line_text}
use Rattle.rope_search_reports.specs.Report.{line_texts, IsRow, AreRows}
use Rattle.rope_search_reports.specs.declared.changes.Splice.{Splice}
use Rattle.rope_search_reports.specs.declared.patches.Patch.{Patch}
use Rattle.rope_search_reports.specs.declared.positions.Place.{Place}
use Rattle.rope_search_reports.specs.declared.positions.OwnLine.{OwnLine}
use Rattle.rope_search_reports.specs.declared.line_start.LineStart.{LineStart}
use Rattle.rope_search_reports.specs.declared.line.Line.{Line}
use Rattle.rope_search_reports.specs.declared.line.Line.TheVariants.{Whole, Narrow, Parted}

-- the text of a line, given with the break that ends it, if one does
pub record HasOwnText (line own : List ℕ) : Type 0 where
  pub one : List ℕ
  pub parts : line ≡ own ++ one
  pub plain : NonePass is_break own
  pub ended : (one ≡ []) ⊎ IsBreak is_break one []

-- no part of a haystack between two offsets has a match, searched separately
abbrev pub FindsNoneBetween : List ℕ → List ℕ → ℕ → ℕ → Type 0
FindsNoneBetween pattern content from to =
    (start end : ℕ) → from ≤ start → end ≤ to
    → FindsMatch pattern (between start end content) 0 None

-- no line of a text in a range has a match
abbrev pub HaveNoMatches : List ℕ → List ℕ → ℕ → ℕ → Type 0
HaveNoMatches pattern text first end =
    (line : ℕ) → first ≤ line → line < end → IsRow pattern (line_text text line) []

-- the lines of a text in a range
abbrev pub lines_between : List ℕ → ℕ → ℕ → List (List ℕ)
lines_between text first end = take (end - first) (drop first (line_texts text))

-- the rows of these lines are added after the old rows
pub record AddsRows (pattern : List ℕ) (lines : List (List ℕ)) (old new : List (List (ℕ × ℕ)))
    : Type 0 where
  pub made : List (List (ℕ × ℕ))
  pub are : AreRows pattern lines made
  pub behind : new ≡ old ++ made

-- ---- a line in place

-- the text of a line
abbrev pub own_text : Line → List ℕ
own_text (Whole text) = chars text.now
own_text (Narrow text) = chars text.now
own_text (Parted slice) = slice_text slice

-- it is text: UTF-8, or scalar values; in a narrow line each character takes one byte
abbrev pub HoldsText : Line → Type 0
HoldsText (Whole text) = IsUtf8 text.now
HoldsText (Narrow text) =
    IsUtf8 text.now × (units (chars text.now) ≡ byte_len (chars text.now))
HoldsText (Parted slice) = IsText (slice_text slice)

-- an offset in a line's text, up to its end, with this number of code units before it
pub record HasColumn (own : List ℕ) (column : ℕ) (place : Place) : Type 0 where
  pub front : List ℕ
  pub back : List ℕ
  pub parts : own ≡ front ++ back
  pub byte_is : place.byte_idx ≡ byte_len front
  pub char_is : place.char_idx ≡ length front
  pub column_is : column ≡ units front

-- there is none: the column is after its end, or inside a surrogate pair
abbrev pub HasNoColumn : List ℕ → ℕ → Type 0
HasNoColumn own column = (front back : List ℕ) → own ≡ front ++ back → column ≡ units front → ⊥

-- ---- where a line starts

-- a chunk of a text with its offsets, and where a line starts in it, or at its end; no CR LF is
-- split at its end
pub record StartsIn (text : List ℕ) (line : ℕ) (start : LineStart) : Type 0 where
  pub first : List ℕ
  pub others : List ℕ
  pub parts : text ≡ first ++ (chars start.chunk.now ++ others)
  pub utf8 : IsUtf8 start.chunk.now
  pub whole : NoCrLfBetween (chars start.chunk.now) others
  pub byte_is : start.byte_idx ≡ byte_len first
  pub char_is : start.char_idx ≡ length first
  pub there : line_start text line ≡ start.byte_idx + start.at
  pub between : IsCharBoundary start.chunk.now start.at
  pub scalars : IsText text
  pub fits : byte_len text < 2 ^ 63

-- a line of a text with its offsets, and its text if that is known
pub record IsOwnLine (text : List ℕ) (line : ℕ) (own : OwnLine) : Type 0 where
  pub inside : line < line_count text
  pub whole_is : slice_text own.whole ≡ text
  pub line_is : own.line_idx ≡ line
  pub byte_is : own.start.byte_idx ≡ line_start text line
  pub char_is : own.start.char_idx ≡ ends_up_to (line_start text line) (char_ends text)
  pub text_is : IfSome own.text (λ told. chars told.now ≡ line_text text line)
  pub utf8 : IfSome own.text (λ told. IsUtf8 told.now)
  pub scalars : IsText text
  pub fits : byte_len text < 2 ^ 63

-- ---- a walk over lines

-- the view of a walk: the text, the next line, and the rest of the chunk in which that starts
pub record WalkState : Type 0 where
  pub text : List ℕ
  pub line : ℕ
  pub rest : List ℕ

-- a text begins with the rest of a chunk, and no CR LF is split at the end of that
pub record IsRestOfChunk (text rest : List ℕ) : Type 0 where
  pub after : List ℕ
  pub parts : text ≡ rest ++ after
  pub whole : NoCrLfBetween rest after

-- a line of a text starts at this offset: it is followed by the lines from that one on
pub record StartsLine (text : List ℕ) (line byte : ℕ) (rest : List ℕ) : Type 0 where
  pub before : List ℕ
  pub behind : List ℕ
  pub parts : text ≡ before ++ behind
  pub place : byte ≡ byte_len before
  pub there : byte ≡ line_start text line
  pub lines : drop line (line_texts text) ≡ line_texts behind
  pub shown : IsRestOfChunk behind rest

-- such a walk: after the last line nothing is left
pub record IsWalk (text : List ℕ) (line byte : ℕ) (rest : List ℕ) : Type 0 where
  pub text_is : IsText text
  pub fits : line_count text < 2 ^ 64
  pub bytes_fit : byte_len text < 2 ^ 63
  pub near : byte ≤ byte_len text
  pub utf8 : IsUtf8 rest
  pub within : line ≤ line_count text
  pub starts : line < line_count text → StartsLine text line byte (chars rest)
  pub nothing : line ≡ line_count text → rest ≡ []

-- the lines that end in the rest are those of the text from the next one on
abbrev pub ShowsLines : WalkState → Type 0
ShowsLines walk = (k : ℕ) → k < breaks is_break walk.rest
    → line_text walk.text (walk.line + k) ≡ line_text walk.rest k

-- ---- lines of offsets

-- the view of a `LineTeller`: the text, and where the rest of a chunk starts and ends
pub record TellerState : Type 0 where
  pub text : List ℕ
  pub start : ℕ
  pub end : ℕ

-- the rest of a chunk from an offset on, which is in this line; no CR LF is split at its end
pub record IsTeller (text rest : List ℕ) (start line : ℕ) : Type 0 where
  pub before : List ℕ
  pub after : List ℕ
  pub parts : text ≡ before ++ (chars rest ++ after)
  pub utf8 : IsUtf8 rest
  pub start_is : start ≡ byte_len before
  pub line_is : line ≡ line_at text start
  pub whole : NoCrLfBetween (chars rest) after
  pub fits : line_count text < 2 ^ 64
  pub bytes_fit : byte_len text < 2 ^ 63

-- this number of offsets from one on are in the same line
abbrev pub StaysInLine : List ℕ → ℕ → ℕ → ℕ → Type 0
StaysInLine text start line count = (k : ℕ) → k < count → line_at text (start + k) ≡ line

-- the second line of a text starts at this offset
pub record IsSecondLine (text : List ℕ) (place : ℕ) : Type 0 where
  pub boundary : IsCharBoundary text place
  pub one : ends_up_to place (break_ends is_break (chars text)) ≡ 1

-- if a number of offsets is known to be in the first line of a text, and the text has more, the next
-- line starts there
abbrev pub KnowsLineEnd : List ℕ → ℕ → Type 0
KnowsLineEnd text count = 0 < count → count < length text → IsSecondLine text count

-- ---- after the last change

-- two texts are alike after an offset of the old one; the new one has `done` lines before that
pub record GoOnAlike (old new : List ℕ) (old_end done : ℕ) : Type 0 where
  pub before : List ℕ
  pub before' : List ℕ
  pub after : List ℕ
  pub old_is : old ≡ before ++ after
  pub new_is : new ≡ before' ++ after
  pub end_is : old_end ≡ byte_len before
  pub done_is : done ≡ line_at new (byte_len before') + 1

-- ---- a patch after others

-- it begins where the last of them ends, and is merged into that
pub record GoesInto (old : List Patch) (patch : Patch) (new : List Patch) : Type 0 where
  pub others : List Patch
  pub last : Patch
  pub joined : Patch
  pub old_is : old ≡ others ++ last ∷ []
  pub touches : last.end ≡ patch.first
  pub new_is : new ≡ others ++ joined ∷ []
  pub first : joined.first ≡ last.first
  pub ends : joined.end ≡ patch.end
  pub rows : joined.made.items ≡ last.made.items ++ patch.made.items

-- it is merged, or it is added after them
abbrev pub IsPatchAdded : List Patch → Patch → List Patch → Type 0
IsPatchAdded old patch new = (new ≡ old ++ patch ∷ []) ⊎ GoesInto old patch new

-- it begins and ends at a row, and inserts none
pub record IsEmptyAt (row : ℕ) (patch : Patch) : Type 0 where
  pub first : patch.first ≡ row
  pub ends : patch.end ≡ row
  pub none : patch.made.items ≡ []

-- the patch was the last one, and ends at this row
pub record IsTakenAt (old : List Patch) (row : ℕ) (patch : Patch) (new : List Patch) : Type 0 where
  pub last : old ≡ new ++ patch ∷ []
  pub ends : patch.end ≡ row

-- the patch is taken from the end of a list if it ends at this row; otherwise it is empty there
abbrev pub IsTouching : List Patch → ℕ → Patch → List Patch → Type 0
IsTouching old row patch new = IsTakenAt old row patch new ⊎ ((new ≡ old) × IsEmptyAt row patch)

-- the rows of lines of a text are added by a patch, in place of the rows that they replace
pub record AddsPatch (pattern text : List ℕ) (splice : Splice) (old new : List Patch)
    : Type 0 where
  pub patch : Patch
  pub added : IsPatchAdded old patch new
  pub first : patch.first ≡ splice.first
  pub ends : patch.end ≡ splice.end
  pub rows : AreRows pattern (lines_between text splice.start splice.stop) patch.made.items

-- so they are, or there are no such lines and rows
abbrev pub AddsRowsOf : List ℕ → List ℕ → Splice → List Patch → List Patch → Type 0
AddsRowsOf pattern text splice old new =
    ((new ≡ old) × (splice.start ≡ splice.stop) × (splice.first ≡ splice.end))
    ⊎ AddsPatch pattern text splice old new
