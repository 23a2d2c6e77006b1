-- The report of a text and a pattern: for each line, where the pattern matches in it.
use Rattle.std.specs.Prelude.{◌≡◌, ℕ, List, [], ◌∷◌, if◌then◌else◌, length, take, map, sum_by, chars}
use Rattle.str_indices.specs.Text.{ends_break, units}
use Rattle.ropey.specs.Chunks.{is_break}
use Rattle.rope_search_reports.specs.Text.{bytes_of}
use Rattle.rope_search_reports.specs.Matches.{IsMatches}

-- ---- lines

-- the lines with a character before the first
abbrev pub with_first : ℕ → List (List ℕ) → List (List ℕ)
with_first c [] = (c ∷ []) ∷ []
with_first c (line ∷ lines) = (c ∷ line) ∷ lines

-- The text of each line. It has no character of the break set, so the CR of a CR LF isn't in it
-- either. Each break ends a line, so there is one more line than breaks.
unfoldable pub line_texts : List ℕ → List (List ℕ)
line_texts [] = [] ∷ []
line_texts (c ∷ rest) =
    if ends_break is_break c rest then [] ∷ line_texts rest
    else if is_break c then line_texts rest
    else with_first c (line_texts rest)

-- ---- rows
-- A row is the matches in one line, each as two columns: UTF-16 code units from the line's start.

-- the column of an offset in a line's UTF-8
abbrev pub column : List ℕ → ℕ → ℕ
column content place = units (chars (take place content))

abbrev pub columns : List ℕ → ℕ × ℕ → ℕ × ℕ
columns content span = (column content span.0, column content span.1)

-- the row of a pattern in a line: its matches, with the line's text as the whole haystack
pub record IsRow (pattern line : List ℕ) (row : List (ℕ × ℕ)) : Type 0 where
  pub spans : List (ℕ × ℕ)
  pub are : IsMatches pattern (bytes_of line) spans
  pub shown : row ≡ map (columns (bytes_of line)) spans

-- a row for each line
abbrev pub AreRows : List ℕ → List (List ℕ) → List (List (ℕ × ℕ)) → Type 0
AreRows pattern [] [] = Unit {0}
AreRows pattern (line ∷ lines) (row ∷ rows) = IsRow pattern line row × AreRows pattern lines rows
AreRows pattern lines rows = ⊥

-- the report of a text and a pattern: the row of each line, from the first
abbrev pub IsReport : List ℕ → List ℕ → List (List (ℕ × ℕ)) → Type 0
IsReport text pattern rows = AreRows pattern (line_texts text) rows

-- how many matches there are in all rows
abbrev pub match_count : List (List (ℕ × ℕ)) → ℕ
match_count rows = sum_by length rows
