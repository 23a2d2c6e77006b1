-- The lines of a text in chunks.
use Rattle.std.specs.Prelude.{ℕ, ◌+◌, List, map}
use Rattle.std.specs.List.{range_with_len}
use Rattle.ropey_walk.specs.Chunks.{text_of, line_breaks}
use Rattle.ropey_walk.specs.Clips.{clip}
use Rattle.ropey_walk.specs.Conversions.{char_of_line}

-- a line with the break that ends it, as chunks: from its start to that of the next one, or to the
-- text's end
abbrev pub line_pieces : List (List ℕ) → ℕ → List (List ℕ)
line_pieces pieces line =
    clip (char_of_line (text_of pieces) line) (char_of_line (text_of pieces) (line + 1)) pieces

-- all lines, one more than breaks: the last has no break, and may be empty
abbrev pub lines_of : List (List ℕ) → List (List (List ℕ))
lines_of pieces = map (line_pieces pieces) (range_with_len 0 (line_breaks (text_of pieces) + 1))
