-- Texts that are cut into leaf texts (pieces). A text is a list of Unicode scalar values, and
-- `concat` joins pieces.
use Rattle.std.specs.Prelude.{◌≡◌, ℕ, ◌-◌, ◌^◌, ◌<◌, ◌≤◌, true, false, List, [], ◌∷◌, ◌++◌, length, take, All}
use Rattle.std.specs.Str.{all_scalars}
use Rattle.str_indices.specs.Text.{byte_len}
pub use Rattle.str_indices.specs.Text.{cuts_cr_lf}
use Rattle.ropey_tree.specs.Counts.{total}

-- a leaf text: scalar values of 1 to 984 bytes together
pub record IsPiece (piece : List ℕ) : Type 0 where
  pub scalars : all_scalars piece ≡ true
  pub not_empty : 1 ≤ byte_len piece
  pub not_long : byte_len piece ≤ 984

-- leaf texts with no CR LF across two of them
abbrev pub IsCutting : List (List ℕ) → Type 0
IsCutting [] = Unit {0}
IsCutting (p ∷ []) = IsPiece p
IsCutting (p ∷ q ∷ ps) = IsPiece p × (cuts_cr_lf p q ≡ false) × IsCutting (q ∷ ps)

-- of 980 bytes or more: one more character wouldn't fit, or a CR LF would be cut
abbrev pub IsFull : List ℕ → Type 0
IsFull piece = 980 ≤ byte_len piece

-- each leaf text but the last is full
abbrev pub AreFull : List (List ℕ) → Type 0
AreFull pieces = All IsFull (take (length pieces - 1) pieces)

-- the leaf texts of a rope: at most `isize::MAX` bytes
pub record IsRopeText (pieces : List (List ℕ)) : Type 0 where
  pub cut : IsCutting pieces
  pub fits : (total pieces).bytes < 2 ^ 63

-- a byte index that is a character boundary of a text
pub record IsBoundaryOf (text : List ℕ) (at : ℕ) : Type 0 where
  pub front : List ℕ
  pub back : List ℕ
  pub parts : text ≡ front ++ back
  pub place : byte_len front ≡ at
