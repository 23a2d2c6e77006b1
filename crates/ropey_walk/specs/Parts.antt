-- A part of the text of a rope.
use Rattle.std.specs.Prelude.{◌≡◌, ℕ, ◌+◌, ◌<◌, ◌≤◌, ◌⊎◌, List, [], ◌∷◌, ◌++◌, length, take, Option, Some, None}
use Rattle.std.specs.Borrow.{Bor}
use Rattle.str_indices.specs.Text.{byte_len, units}
use Rattle.ropey_tree.specs.declared.counts.Counts.{Counts}
use Rattle.ropey_tree.specs.declared.counts.By.{By}
use Rattle.ropey_tree.specs.Counts.{counts_of, amount}
use Rattle.ropey_tree.specs.NodeView.{NodeView}
use Rattle.ropey_walk.specs.Chunks.{text_of}
use Rattle.ropey_walk.specs.Conversions.{line_of_byte}

-- the chunks of a tree, or none
abbrev pub pieces_under : Option (Bor NodeView) → List (List ℕ)
pieces_under None = []
pieces_under (Some node) = node.now.pieces

-- The counts before a character of a text. A break that ends after the character isn't counted yet:
-- between CR and LF that is the CR LF.
abbrev pub standing : List ℕ → ℕ → Counts
standing text char = record { bytes = byte_len (take char text); chars = char; units = units (take char text); breaks = line_of_byte text (byte_len (take char text)) }

-- The leaf that a part of a text reaches into and that contains position i of a measure of the
-- part, and the counts before it: the first whose end is past i, or the last that the part reaches
-- into.
pub record ReachesLeaf (pieces : List (List ℕ)) (start len : Counts) (by : By) (i : ℕ) (leaf : List ℕ) (before : Counts) : Type 0 where
  pub left : List (List ℕ)
  pub right : List (List ℕ)
  pub parts : pieces ≡ left ++ leaf ∷ right
  pub stands_before : before ≡ counts_of (text_of left)
  pub starts : length (text_of left) < start.chars + len.chars
  pub ends : start.chars < length (text_of left ++ leaf)
  pub not_past : amount by before ≤ amount by start + i
  pub passed : (amount by start + i < amount by (counts_of (text_of left ++ leaf))) ⊎ (start.chars + len.chars ≤ length (text_of left ++ leaf))
