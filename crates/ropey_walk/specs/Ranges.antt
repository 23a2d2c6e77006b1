-- Ranges of a text's characters and bytes, and why one is refused.
use Rattle.std.specs.Prelude.{◌≡◌, ℕ, ◌+◌, ◌-◌, ◌^◌, ◌<◌, ◌≤◌, ◌⊎◌, Bool, ◌&&◌, nat_le, min}
use Rattle.std.specs.Prelude.{if◌then◌else◌, List, length, Option, Some, None, encode_utf8_all}
use Rattle.std.specs.Option.{unwrap_or}
use Rattle.std.specs.Str.{IsCharBoundary}
use Rattle.str_indices.specs.Text.{byte_len}
use Rattle.ropey_tree.specs.declared.error.Error.{Error}
use Rattle.ropey_tree.specs.declared.error.Error.TheVariants.{CharRangeInvalid, ByteRangeInvalid}
use Rattle.ropey_tree.specs.declared.error.Error.TheVariants.{CharRangeOutOfBounds}
use Rattle.ropey_tree.specs.declared.error.Error.TheVariants.{ByteRangeOutOfBounds}
use Rattle.ropey_tree.specs.declared.error.Error.TheVariants.{ByteRangeNotCharBoundary}
use Rattle.ropey_walk.specs.declared.ranges.Ends.{Ends}
use Rattle.ropey_walk.specs.Chunks.{text_of}
use Rattle.ropey_walk.specs.Clips.{clip}
use Rattle.ropey_walk.specs.Conversions.{char_of_byte}

-- ---- ends
-- the index after another, at most the greatest `usize`
abbrev pub end_behind : ℕ → ℕ
end_behind last = min (last + 1) (2 ^ 64 - 1)

-- the index after the last of `first..=last`, which is empty once it was iterated to its end
abbrev pub end_of_inclusive : ℕ → ℕ → Bool → ℕ
end_of_inclusive first last is_spent =
    if nat_le first last && is_spent then last else end_behind last

-- the start and the end of a range in a text of this length
abbrev pub start_of : Ends → ℕ
start_of ends = unwrap_or ends.start 0

abbrev pub end_of : Ends → ℕ → ℕ
end_of ends len = unwrap_or ends.end len

-- both ends are given, and the start is past the end
abbrev pub IsBackwards : Option ℕ → Option ℕ → Type 0
IsBackwards None end = ⊥
IsBackwards (Some start) None = ⊥
IsBackwards (Some start) (Some end) = end < start

-- ---- ranges of a text
-- the chunks of a text, clipped to a range of its characters, and to one of its bytes
abbrev pub chars_in : Ends → List (List ℕ) → List (List ℕ)
chars_in ends pieces = clip (start_of ends) (end_of ends (length (text_of pieces))) pieces

abbrev pub bytes_in : Ends → List (List ℕ) → List (List ℕ)
bytes_in ends pieces =
    clip (char_of_byte (text_of pieces) (start_of ends))
    (char_of_byte (text_of pieces) (end_of ends (byte_len (text_of pieces)))) pieces

-- a range inside a length
pub record IsRangeIn (len : ℕ) (ends : Ends) : Type 0 where
  pub order : start_of ends ≤ end_of ends len
  pub within : end_of ends len ≤ len

-- a range of a text's bytes that starts and ends at character boundaries
pub record IsByteRangeIn (text : List ℕ) (ends : Ends) : Type 0 where
  pub range : IsRangeIn (byte_len text) ends
  pub starts : IsCharBoundary (encode_utf8_all text) (start_of ends)
  pub stops : IsCharBoundary (encode_utf8_all text) (end_of ends (byte_len text))

-- ---- why one is refused: its start is past its end, or it is out of bounds or splits a character
abbrev pub GoesPast : ℕ → Ends → Type 0
GoesPast len ends =
    (¬ (IsBackwards ends.start ends.end)) × ((len < start_of ends) ⊎ (len < end_of ends len))

abbrev pub CutsChar : List ℕ → Ends → Type 0
CutsChar text ends =
    IsRangeIn (byte_len text) ends
    × ((¬ (IsCharBoundary (encode_utf8_all text) (start_of ends)))
    ⊎ (¬ (IsCharBoundary (encode_utf8_all text) (end_of ends (byte_len text)))))

abbrev pub RefusesChars : List ℕ → Ends → Error → Type 0
RefusesChars text ends error =
    (IsBackwards ends.start ends.end
    × (error ≡ CharRangeInvalid (start_of ends) (end_of ends (length text))))
    ⊎ (GoesPast (length text) ends
    × (error ≡ CharRangeOutOfBounds ends.start ends.end (length text)))

abbrev pub RefusesBytes : List ℕ → Ends → Error → Type 0
RefusesBytes text ends error =
    (IsBackwards ends.start ends.end
    × (error ≡ ByteRangeInvalid (start_of ends) (end_of ends (byte_len text))))
    ⊎ (GoesPast (byte_len text) ends
    × (error ≡ ByteRangeOutOfBounds ends.start ends.end (byte_len text)))
    ⊎ (CutsChar text ends × (error ≡ ByteRangeNotCharBoundary ends.start ends.end))
