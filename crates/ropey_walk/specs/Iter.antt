-- What the iterators over a text give.
use Rattle.std.specs.Prelude.{◌≡◌, ℕ, suc, ◌+◌, ◌-◌, ◌<◌, ◌≤◌, List, [], ◌∷◌, ◌++◌, length, take, drop, Option, IfSome, if◌then◌else◌, ◌==◌}
use Rattle.std.specs.Str.{chars, IsUtf8, IsCharBoundary}
use Rattle.std.specs.Borrow.{Bor}
use Rattle.str_indices.specs.Text.{byte_len, NoCrLfBetween}
use Rattle.ropey_walk.specs.Chunks.{text_of, line_breaks}
use Rattle.ropey_walk.specs.Conversions.{byte_of_line, char_of_line}
use Rattle.ropey_walk.specs.Standing.{IsPlaceIn}
use Rattle.ropey_walk.specs.Slices.{slice_pieces}
use Rattle.ropey_walk.specs.TwoWay.{TwoWay, before_item, GivesNext}
use Rattle.ropey_walk.specs.declared.slice.RopeSlice.{RopeSlice}
use Rattle.ropey_walk.specs.declared.iter.lines.LinePlace.{LinePlace}
use Rattle.ropey_tree.specs.Counts.{counts_of}

-- ---- chunks
-- a step that gives a chunk, whose characters the list has
abbrev pub GivesChunk : TwoWay (List ℕ) → Option (Bor (List ℕ)) → TwoWay (List ℕ) → Type 0
GivesChunk old given new = GivesNext (λ chunk. chars chunk.now) old given new × IfSome given (λ chunk. IsUtf8 chunk.now)

-- the number of chunks before a byte index at which one starts
abbrev pub pieces_before : ℕ → List (List ℕ) → ℕ
pieces_before byte [] = 0
pieces_before byte (p ∷ ps) = if byte == 0 then 0 else suc (pieces_before (byte - byte_len p) ps)

-- a byte index at which one of the chunks starts, or their end
pub record IsBetweenPieces (pieces : List (List ℕ)) (byte : ℕ) : Type 0 where
  pub front : List (List ℕ)
  pub rest : List (List ℕ)
  pub parts : pieces ≡ front ++ rest
  pub place : byte ≡ byte_len (text_of front)

-- ---- bytes and characters
-- a step that gives a byte or a character of the list
abbrev pub GivesItem : TwoWay ℕ → Option ℕ → TwoWay ℕ → Type 0
GivesItem old given new = GivesNext (λ item. item) old given new

-- a part of a list, and its start
pub record IsPartAt (start : ℕ) (part items : List ℕ) : Type 0 where
  pub before : List ℕ
  pub after : List ℕ
  pub parts : items ≡ before ++ part ++ after
  pub starts : start ≡ length before

-- the position before a character of a text, in one of its chunks
pub record IsCharPlace (text : List ℕ) (char_idx : ℕ) (chunk : List ℕ) (at : ℕ) : Type 0 where
  pub utf8 : IsUtf8 chunk
  pub boundary : IsCharBoundary chunk at
  pub before : List ℕ
  pub after : List ℕ
  pub parts : text ≡ before ++ chars (take at chunk) ++ (chars (drop at chunk) ++ after)
  pub char_is : char_idx ≡ length (before ++ chars (take at chunk))

-- ---- lines
-- a step that gives a line, whose chunks the list has
abbrev pub GivesLine : TwoWay (List (List ℕ)) → Option RopeSlice → TwoWay (List (List ℕ)) → Type 0
GivesLine old given new = GivesNext slice_pieces old given new

-- the position of a line's start in a chunk, or the text's end
pub record IsLinePlace (text : List ℕ) (line : LinePlace) : Type 0 where
  pub utf8 : IsUtf8 line.place.text.now
  pub boundary : IsCharBoundary line.place.text.now line.place.at
  pub place : IsPlaceIn text (chars line.place.text.now) line.place.start line.place.at
  pub starts : line.place.start.bytes + line.place.at ≡ byte_of_line text line.line_idx
  pub counted : line.before ≡ counts_of (take (char_of_line text line.line_idx) text)

-- ---- chunks from an index on
-- the end of the first chunk, if there is one, is past i
abbrev pub PassesFirst : (List ℕ → ℕ) → ℕ → List (List ℕ) → List (List ℕ) → Type 0
PassesFirst count i before [] = Unit {0}
PassesFirst count i before (chunk ∷ after) = i < count (text_of before ++ chunk)

-- The position before the chunk that contains position i of a measure, as in `ShowsChunk`, or after
-- the last chunk if i is past the end; with the byte, the character and the line index of that
-- position.
pub record StandsBefore (pieces : List (List ℕ)) (count : List ℕ → ℕ) (i : ℕ) (chunks : TwoWay (List ℕ)) (byte char line : ℕ) : Type 0 where
  pub before : List (List ℕ)
  pub after : List (List ℕ)
  pub parts : pieces ≡ before ++ after
  pub stands : chunks ≡ before_item (length before) pieces
  pub byte_is : byte ≡ byte_len (text_of before)
  pub char_is : char ≡ length (text_of before)
  pub line_is : line ≡ line_breaks (text_of before)
  pub not_past : count (text_of before) ≤ i
  pub passed : PassesFirst count i before after

-- The position for a number of line breaks: before the first chunk for 0, else before the first
-- chunk by whose end that many have ended, or after the last.
pub record StandsBeforeBreak (pieces : List (List ℕ)) (line_break_idx : ℕ) (from : TwoWay (List ℕ) × ℕ × ℕ × ℕ) : Type 0 where
  pub first : line_break_idx ≡ 0 → StandsBefore pieces byte_len 0 from.0 from.1 from.2 from.3
  pub later : 0 < line_break_idx → StandsBefore pieces line_breaks (line_break_idx - 1) from.0 from.1 from.2 from.3

-- no CR LF spans two of the chunks
abbrev pub CutsNoCrLf : List (List ℕ) → Type 0
CutsNoCrLf pieces = (front rest : List (List ℕ)) → pieces ≡ front ++ rest → NoCrLfBetween (text_of front) (text_of rest)
