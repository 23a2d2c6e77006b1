-- The text of a rope or a slice, and the chunks that its calls return.
use Rattle.std.specs.Prelude.{◌≡◌, ℕ, ◌-◌, ◌<◌, ◌≤◌, ◌⊎◌, List, [], ◌∷◌, ◌++◌, length}
use Rattle.std.specs.List.{concat}
use Rattle.str_indices.specs.Text.{breaks, byte_len}
pub use Rattle.ropey_tree.specs.Cutting.{IsPiece, IsCutting, IsRopeText}
pub use Rattle.ropey_tree.specs.Breaks.{is_break}

-- the text of chunks together
abbrev pub text_of : List (List ℕ) → List ℕ
text_of pieces = concat pieces

-- the number of line breaks of a text, with CR LF as one
abbrev pub line_breaks : List ℕ → ℕ
line_breaks text = breaks is_break text

-- a chunk by itself; an empty text has none
abbrev pub lone_piece : List ℕ → List (List ℕ)
lone_piece [] = []
lone_piece (c ∷ cs) = (c ∷ cs) ∷ []

-- The chunk that contains position i of a measure, with the byte, the character and the line index
-- of its start: the first whose end is past i, or the last. Without a chunk it is an empty one.
pub record ShowsChunk (pieces : List (List ℕ)) (count : List ℕ → ℕ) (i : ℕ) (chunk : List ℕ) (byte char line : ℕ) : Type 0 where
  pub before : List (List ℕ)
  pub after : List (List ℕ)
  pub parts : pieces ≡ before ++ lone_piece chunk ++ after
  pub some : chunk ≡ [] → pieces ≡ []
  pub byte_is : byte ≡ byte_len (text_of before)
  pub char_is : char ≡ length (text_of before)
  pub line_is : line ≡ line_breaks (text_of before)
  pub not_past : count (text_of before) ≤ i
  pub passed : (i < count (text_of before ++ chunk)) ⊎ (after ≡ [])

-- The chunk for a number of line breaks: the first one for 0, else the first by whose end that many
-- have ended, or the last.
pub record ShowsChunkOfBreak (pieces : List (List ℕ)) (line_break_idx : ℕ) (chunk : List ℕ) (byte char line : ℕ) : Type 0 where
  pub first : line_break_idx ≡ 0 → ShowsChunk pieces byte_len 0 chunk byte char line
  pub later : 0 < line_break_idx → ShowsChunk pieces line_breaks (line_break_idx - 1) chunk byte char line
