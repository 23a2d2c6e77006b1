-- Single lines: the lengths of their texts, and columns that count bytes, UTF-16 code units or
-- characters.
use Rattle.std.specs.Prelude.{◌≡◌, ℕ, ◌+◌, ◌-◌, ◌<◌, ◌≤◌, nat_le, if◌then◌else◌, All, List, [], ◌∷◌, ◌++◌, length, map, slice_index_or}
use Rattle.str_indices.specs.Text.{byte_len, units, units_of}
use Rattle.rope_search_reports.specs.Position.{IsAt, line_at, line_text}
use Rattle.rope_search_reports.specs.Report.{IsReport}
use Rattle.rope_search_reports.specs.Text.{IsText, line_count}
use Rattle.rope_search_reports.specs.declared.positions.Position.{Position}
use Rattle.rope_search.specs.Encodings.{IsAtIn, column_in}
use Rattle.rope_search.specs.declared.encodings.Encoding.{Encoding}
use Rattle.rope_search.specs.declared.encodings.Encoding.TheVariants.{Utf8, Utf16, Utf32}

-- the length of a text: its number of bytes, UTF-16 code units or characters
abbrev pub length_in : Encoding → List ℕ → ℕ
length_in Utf8 text = byte_len text
length_in Utf16 text = units text
length_in Utf32 text = length text

-- ---- clamped positions

-- of the offsets in the line's text, or at its end, this is the last whose column is no greater
pub record IsNearest (encoding : Encoding) (text : List ℕ) (line column place : ℕ) : Type 0 where
  pub line_is : line ≡ line_at text place
  pub fits : column_in encoding text place ≤ column
  pub last : (other own : ℕ) → IsAtIn encoding text line own other → own ≤ column → other ≤ place

-- The position to which a line and a column are clamped: at that offset, which is the end of the
-- line's text for a column past it, and the start of a character or a surrogate pair for a column
-- inside; and at the text's end for a line past the last one.
pub record IsClamped (encoding : Encoding) (text : List ℕ) (line column : ℕ)
    (spot : Position) : Type 0 where
  pub place : ℕ
  pub at : IsAt text (spot.line, spot.column) place
  pub inside : line < line_count text → IsNearest encoding text line column place
  pub past : line_count text ≤ line → place ≡ byte_len text

-- the longest of all prefixes of a line's text that are no longer than the column
pub record IsLongestFront (encoding : Encoding) (line : List ℕ) (column : ℕ)
    (front : List ℕ) : Type 0 where
  pub back : List ℕ
  pub parts : line ≡ front ++ back
  pub fits : length_in encoding front ≤ column
  pub longest : (other rest : List ℕ) → line ≡ other ++ rest → length_in encoding other ≤ column
      → byte_len other ≤ byte_len front

-- ---- columns of a report

-- the longest prefix of a text with at most this number of UTF-16 code units
abbrev pub front_to : ℕ → List ℕ → List ℕ
front_to column [] = []
front_to column (c ∷ cs) =
    if nat_le (units_of c) column then c ∷ front_to (column - units_of c) cs else []

-- the column is that of an offset at a character boundary
abbrev pub IsColumnOf : List ℕ → ℕ → Type 0
IsColumnOf text column = units (front_to column text) ≡ column

-- the column of that offset in an encoding: the length of the text before it
abbrev pub column_as : Encoding → List ℕ → ℕ → ℕ
column_as encoding text column = length_in encoding (front_to column text)

-- both columns of a match
abbrev pub AreColumnsOf : List ℕ → ℕ × ℕ → Type 0
AreColumnsOf text columns = IsColumnOf text columns.0 × IsColumnOf text columns.1

abbrev pub columns_as : Encoding → List ℕ → ℕ × ℕ → ℕ × ℕ
columns_as encoding text columns =
    (column_as encoding text columns.0, column_as encoding text columns.1)

-- rows of a report, the first of which is that of this line, with columns in an encoding
unfoldable pub rows_as : Encoding → List ℕ → ℕ → List (List (ℕ × ℕ)) → List (List (ℕ × ℕ))
rows_as encoding text line [] = []
rows_as encoding text line (row ∷ rows) =
    map (columns_as encoding (line_text text line)) row ∷ rows_as encoding text (line + 1) rows

-- the columns of a report's row are columns of its line's text
abbrev pub ReportsHaveColumns : Type 0
ReportsHaveColumns = (text pattern : List ℕ) (rows : List (List (ℕ × ℕ))) (line : ℕ)
    → IsText text → IsReport text pattern rows
    → All (AreColumnsOf (line_text text line)) (slice_index_or rows line [])
