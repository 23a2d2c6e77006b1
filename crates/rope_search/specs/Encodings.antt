-- Columns in bytes, in UTF-16 code units and in characters. A `Position` has a column in UTF-16
-- code units.
use Rattle.std.specs.Prelude.{◌≡◌, ℕ, ◌-◌, ◌≤◌, List, length}
use Rattle.std.specs.Str.{IsCharBoundary}
use Rattle.str_indices.specs.Laws.{AnyTexts, EndsAddUp, RisesWithPlace, NoMoreThanBytes, ComesBack, EndsAndPlacesAgree, LastEndIsBefore, CharsAndBoundariesAgree}
use Rattle.str_indices.specs.Text.{char_ends, ends_up_to}
use Rattle.rope_search_reports.specs.Text.{bytes_of}
use Rattle.rope_search_reports.specs.Position.{column_at, line_at, line_start, text_end}
use Rattle.rope_search.specs.declared.encodings.Encoding.{Encoding}
use Rattle.rope_search.specs.declared.encodings.Encoding.TheVariants.{Utf8, Utf16, Utf32}

-- the number of bytes, code units or characters from the start of the offset's line up to the
-- offset
abbrev pub column_in : Encoding → List ℕ → ℕ → ℕ
column_in Utf8 text place = place - line_start text (line_at text place)
column_in Utf16 text place = column_at text place
column_in Utf32 text place =
    ends_up_to place (char_ends text)
    - ends_up_to (line_start text (line_at text place)) (char_ends text)

-- the offset of a line and a column: a boundary, in the line's text or at its end
pub record IsAtIn (encoding : Encoding) (text : List ℕ) (line column place : ℕ) : Type 0 where
  pub boundary : IsCharBoundary (bytes_of text) place
  pub line_is : line ≡ line_at text place
  pub column_is : column ≡ column_in encoding text place
  pub within : place ≤ text_end text line

-- they have no offset: inside a character or a break, after the line's text, or past the last line
abbrev pub IsNowhereIn : Encoding → List ℕ → ℕ → ℕ → Type 0
IsNowhereIn encoding text line column =
    (place : ℕ) → IsAtIn encoding text line column place → ⊥

-- laws of where the characters of a text end
pub record CharLaws : Type 0 where
  pub add : EndsAddUp AnyTexts length char_ends
  pub rise : RisesWithPlace char_ends
  pub few : NoMoreThanBytes length
  pub back : ComesBack char_ends
  pub places : EndsAndPlacesAgree char_ends
  pub last : LastEndIsBefore char_ends
  pub agree : CharsAndBoundariesAgree
