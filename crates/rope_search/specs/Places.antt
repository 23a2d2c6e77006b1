-- The text between two positions, and the result of an edit of it.
use Rattle.std.specs.Prelude.{◌≡◌, ℕ, ◌+◌, ◌-◌, ◌<◌, ◌≤◌, ◌⊎◌, List, ◌++◌, length, take, drop}
use Rattle.str_indices.specs.Text.{byte_len}
use Rattle.rope_search_reports.specs.declared.positions.Position.{Position}
use Rattle.rope_search_io.specs.declared.faults.Fault.{Fault}
use Rattle.rope_search_io.specs.declared.faults.Fault.TheVariants.{Range}
use Rattle.rope_search_reports.specs.Text.{IsText}
use Rattle.rope_search_reports.specs.Position.{IsAt}
use Rattle.rope_search.specs.declared.parts.Part.{Part}
use Rattle.rope_search.specs.Session.{BufferState, current_text, with_edit}

-- the first position is where this part of the text starts, and the second one where it ends
pub record IsBetween (text : List ℕ) (from to : Position)
    (before part behind : List ℕ) : Type 0 where
  pub scalars : IsText text
  pub parts : text ≡ before ++ part ++ behind
  pub starts : IsAt text (from.line, from.column) (byte_len before)
  pub ends : IsAt text (to.line, to.column) (byte_len (before ++ part))

-- there is no such part: a position is nowhere in the text, or the second one is before the first
abbrev pub HasNoneBetween : List ℕ → Position → Position → Type 0
HasNoneBetween text from to =
    (before part behind : List ℕ) → IsBetween text from to before part behind → ⊥

-- with this number of bytes in place of the part, the text would have more than the limit
pub record GetsTooLong (limit : ℕ) (text : List ℕ) (from to : Position) (len : ℕ) : Type 0 where
  pub before : List ℕ
  pub part : List ℕ
  pub behind : List ℕ
  pub between : IsBetween text from to before part behind
  pub long : limit < byte_len before + len + byte_len behind

-- the fault that is reported: `Range` if there is no part, otherwise the other
abbrev pub TellsRangeOr : List ℕ → Position → Position → Fault → Fault → Type 0
TellsRangeOr text from to other told =
    (HasNoneBetween text from to × (told ≡ Range))
    ⊎ ((before part behind : List ℕ) × IsBetween text from to before part behind × (told ≡ other))

-- another text replaces the part, and the buffer with the result is the new one
pub record IsEdit (old : BufferState) (from to : Position) (inserted : List ℕ)
    (new : BufferState) : Type 0 where
  pub before : List ℕ
  pub part : List ℕ
  pub behind : List ℕ
  pub between : IsBetween (current_text old) from to before part behind
  pub changed : new ≡ with_edit old (before ++ inserted ++ behind)

-- ---- a part by its offsets

-- the part of a text between these offsets, in characters and in bytes
pub record IsMarked (text : List ℕ) (part : Part) : Type 0 where
  pub ordered : part.start.char_idx ≤ part.end.char_idx
  pub within : part.end.char_idx ≤ length text
  pub starts : byte_len (take part.start.char_idx text) ≡ part.start.byte_idx
  pub ends : byte_len (take part.end.char_idx text) ≡ part.end.byte_idx

-- a text with another one in place of the part
abbrev pub with_replaced : List ℕ → Part → List ℕ → List ℕ
with_replaced text part inserted =
    take part.start.char_idx text ++ inserted ++ drop part.end.char_idx text

-- the part is the text between the positions
pub record IsMarkedBetween (text : List ℕ) (from to : Position) (part : Part) : Type 0 where
  pub marked : IsMarked text part
  pub between : IsBetween text from to (take part.start.char_idx text)
      (take (part.end.char_idx - part.start.char_idx) (drop part.start.char_idx text))
      (drop part.end.char_idx text)
