-- Indices of bytes, characters, UTF-16 code units and lines in a text, each counted from 0.
use Rattle.std.specs.Prelude.{ℕ, List, slice_index_or}
use Rattle.str_indices.specs.Text.{char_ends, unit_ends, unit_starts, break_ends, ends_up_to, end_place, byte_len}
use Rattle.ropey_walk.specs.Chunks.{is_break}

-- the number of characters that end at or before a byte index: for one inside a character, the
-- index of that character
abbrev pub char_of_byte : List ℕ → ℕ → ℕ
char_of_byte text byte = ends_up_to byte (char_ends text)

-- the number of code units of the characters that end at or before a byte index
abbrev pub unit_of_byte : List ℕ → ℕ → ℕ
unit_of_byte text byte = ends_up_to byte (unit_ends text)

-- the number of line breaks that end at or before a byte index: the line that contains it
abbrev pub line_of_byte : List ℕ → ℕ → ℕ
line_of_byte text byte = ends_up_to byte (break_ends is_break text)

-- the start of a character, or the text's end past the last one
abbrev pub byte_of_char : List ℕ → ℕ → ℕ
byte_of_char text char = end_place (char_ends text) char (byte_len text)

-- the start of the character that contains a code unit, or the text's end past the last one
abbrev pub byte_of_unit : List ℕ → ℕ → ℕ
byte_of_unit text unit = slice_index_or (unit_starts text) unit (byte_len text)

-- the start of a line, or the text's end past the last one
abbrev pub byte_of_line : List ℕ → ℕ → ℕ
byte_of_line text line = end_place (break_ends is_break text) line (byte_len text)

-- the character at the start of a line, or the number of characters past the last line
abbrev pub char_of_line : List ℕ → ℕ → ℕ
char_of_line text line = char_of_byte text (byte_of_line text line)
