-- A text is a list of Unicode scalar values, encoded in UTF-8.
use Rattle.std.specs.Prelude.{◌≡◌, ℕ, ◌+◌, List, true, encode_utf8_all}
use Rattle.std.specs.Str.{all_scalars}
use Rattle.str_indices.specs.Text.{breaks}
use Rattle.ropey.specs.Chunks.{is_break}

-- each number of the list is a scalar value
abbrev pub IsText : List ℕ → Type 0
IsText text = all_scalars text ≡ true

-- the UTF-8 of a text
abbrev pub bytes_of : List ℕ → List ℕ
bytes_of text = encode_utf8_all text

-- these bytes are the UTF-8 of this text
pub record Encodes (text bytes : List ℕ) : Type 0 where
  pub scalars : IsText text
  pub spelled : bytes_of text ≡ bytes

-- The number of lines of a text: its breaks plus one, because the last line has none at its end.
-- Breaks are LF and CR, with CR LF as one.
abbrev pub line_count : List ℕ → ℕ
line_count text = breaks is_break text + 1
