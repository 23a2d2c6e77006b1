-- The pieces of a template, in order.
use Rattle.std.specs.Prelude.{◌≡◌, ℕ, ◌+◌, ◌<◌, ◌≤◌, ◌==◌, Bool, false, ◌||◌, List, [], ◌∷◌, ◌++◌, length, slice_index, Option, chars, MatchOption, IsUtf8}
use Rattle.rope_search_changes.specs.Replacement.{Groups, expand, group_text, is_digit}
use Rattle.rope_search_templates.specs.Templates.{names}
use Rattle.rope_search_templates.specs.declared.pieces.Piece.{Piece}
use Rattle.rope_search_templates.specs.declared.pieces.Piece.TheVariants.{Text, Group}

-- the text of a piece at a match
abbrev pub shown : List ℕ → Groups → Piece → List ℕ
shown content groups (Text text) = chars text.now
shown content groups (Group number) = group_text content groups number

-- the piece is a group that passes a test
abbrev pub is_group : (ℕ → Bool) → Piece → Bool
is_group test (Text text) = false
is_group test (Group number) = test number

-- a text is UTF-8, and a group has one digit
abbrev pub IsTemplatePiece : Piece → Type 0
IsTemplatePiece (Text text) = IsUtf8 text.now
IsTemplatePiece (Group number) = number < 10

-- the first piece of the rest of a template, and the rest after it
pub record IsFirstPiece (left : List ℕ) (piece : Piece) (behind : List ℕ) : Type 0 where
  pub is_one : IsTemplatePiece piece
  pub expands : (content : List ℕ) (groups : Groups)
      → expand content groups left ≡ shown content groups piece ++ expand content groups behind
  pub names_it : (test : ℕ → Bool) → names test left ≡ (is_group test piece || names test behind)
  pub shorter : length behind < length left

-- A step gives the first piece of the rest, or none at the end.
abbrev pub GivesPiece : List ℕ → Option Piece → List ℕ → Type 0
GivesPiece old given new =
    MatchOption given ((old ≡ []) × (new ≡ old)) (λ piece. IsFirstPiece old piece new)

-- ---- by bytes

-- the text starts neither with a dollar, which is 36, nor with a digit
abbrev pub StartsPlain : List ℕ → Type 0
StartsPlain [] = Unit {0}
StartsPlain (c ∷ cs) = ((c == 36) ≡ false) × (is_digit c ≡ false)

-- it starts with a dollar and this second byte
pub record BeginsPair (bytes : List ℕ) (second : ℕ) : Type 0 where
  pub two : 2 ≤ length bytes
  pub first : slice_index bytes 0 ≡ 36
  pub second_is : slice_index bytes 1 ≡ second

-- it starts with a pair that is this piece
abbrev pub BeginsWith : List ℕ → Piece → Type 0
BeginsWith bytes (Text text) = BeginsPair bytes 36 × (text.now ≡ 36 ∷ []) × IsUtf8 text.now
BeginsWith bytes (Group number) = BeginsPair bytes (48 + number) × (number < 10)
