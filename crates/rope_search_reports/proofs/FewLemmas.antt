-- The maximum number of matches of a report.
use Rattle.std.proofs.Common.{◌≡◌, ℕ, ◌+◌, ◌≤◌, List, [], ◌∷◌, length, sum_by, ap, ⊎_elim, length-append, arith}
use Rattle.std.proofs.lemmas.Bool.{cases_Bool}
use Rattle.std.proofs.lemmas.List.{length-map}
use Rattle.std.proofs.lemmas.List.Sums.{sum_by-cons}
use Rattle.std.proofs.lemmas.Str.{length-encode, len_utf8_bounds}
use Rattle.std.proofs.Math.Utf8.{encode}
use Rattle.str_indices.specs.Text.{ends_break}
use Rattle.ropey.specs.Chunks.{is_break}
use Rattle.rope_search_reports.specs.Text.{bytes_of}
use Rattle.rope_search_reports.specs.Report.{with_first, line_texts, columns, IsRow, AreRows, IsReport, match_count}
use Rattle.regex_cursor.specs.Patterns.{search_from}
use Rattle.rope_search_reports.specs.Pattern.{span_of}
use Rattle.rope_search_reports.specs.Matches.{IsMatches}
use Rattle.rope_search_reports.proofs.MatchLemmas.{AllHaveFinds}
use Rattle.rope_search_reports.proofs.LineLemmas.{line_texts-nil, line_texts-break, line_texts-cr, line_texts-more}

encode-some : (c : ℕ) → 1 ≤ length (encode c)
encode-some c = omega (arith, length-encode c, len_utf8_bounds c)

matches-few : AllHaveFinds → (pattern content : List ℕ) (spans : List (ℕ × ℕ)) → IsMatches pattern content spans → length spans ≤ length content + 1
matches-few finds pattern content spans is =
    let few = ((finds is.are.tree).rise (search_from content 0) is.matches is.are.are).few in
    omega (arith, few, ap length is.spans_are, length-map is.matches span_of)

-- a line has at most one more match than bytes
IsRow-few : AllHaveFinds → (pattern line : List ℕ) (row : List (ℕ × ℕ)) → IsRow pattern line row → length row ≤ length (bytes_of line) + 1
IsRow-few finds pattern line row is =
    omega (arith, ap length is.shown, length-map is.spans (columns (bytes_of line)), matches-few finds pattern (bytes_of line) is.spans is.are)

-- the bytes of all lines, and one for each
abbrev room : List (List ℕ) → ℕ
room lines = sum_by (λ line. length (bytes_of line) + 1) lines

room-cons : (line : List ℕ) (lines : List (List ℕ)) → room (line ∷ lines) ≡ length (bytes_of line) + 1 + room lines
room-cons line lines = sum_by-cons (λ l. length (bytes_of l) + 1) line lines

rows-few : AllHaveFinds → (pattern : List ℕ) (lines : List (List ℕ)) (rows : List (List (ℕ × ℕ))) → AreRows pattern lines rows → match_count rows ≤ room lines
rows-few finds pattern [] [] are = omega arith
rows-few finds pattern [] (row ∷ rows) are = absurd are
rows-few finds pattern (line ∷ lines) [] are = absurd are
rows-few finds pattern (line ∷ lines) (row ∷ rows) are =
    omega (arith, rows-few finds pattern lines rows are.1, IsRow-few finds pattern line row are.0, sum_by-cons length row rows, room-cons line lines)

-- a line with one more character
lines-first : (c : ℕ) (cs : List ℕ) → room (line_texts cs) ≤ length (bytes_of cs) + 1 → line_texts (c ∷ cs) ≡ with_first c (line_texts cs)
    → room (line_texts (c ∷ cs)) ≤ length (bytes_of (c ∷ cs)) + 1
lines-first c cs later is = by (line_texts cs) later (ap room is)
  where
    by : (lines : List (List ℕ)) → room lines ≤ length (bytes_of cs) + 1 → room (line_texts (c ∷ cs)) ≡ room (with_first c lines)
        → room (line_texts (c ∷ cs)) ≤ length (bytes_of (c ∷ cs)) + 1
    by [] few e = omega (arith, e, room-cons (c ∷ []) [], length-append (encode c) [], length-append (encode c) (bytes_of cs))
    by (line ∷ lines) few e =
        omega (arith, e, few, room-cons (c ∷ line) lines, room-cons line lines, length-append (encode c) (bytes_of line), length-append (encode c) (bytes_of cs))

-- each line's break has bytes too, except the last line, which has none
lines-room : (text : List ℕ) → room (line_texts text) ≤ length (bytes_of text) + 1
lines-room [] = omega (arith, ap room line_texts-nil, room-cons [] [])
lines-room (c ∷ cs) =
    let later = lines-room cs in
    let bytes = length-append (encode c) (bytes_of cs) in
    let some = encode-some c in
    ⊎_elim
    (λ is_so. omega (arith, later, bytes, some, ap room (line_texts-break c cs is_so), room-cons [] (line_texts cs)))
    (λ is_not. ⊎_elim
    (λ is_so. omega (arith, later, bytes, some, ap room (line_texts-cr c cs is_not is_so)))
    (λ is_not'. lines-first c cs later (line_texts-more c cs is_not is_not'))
    (cases_Bool (is_break c)))
    (cases_Bool (ends_break is_break c cs))

-- a report has at most one more match than its text has bytes
pub report-few : AllHaveFinds → (text pattern : List ℕ) (rows : List (List (ℕ × ℕ))) → IsReport text pattern rows → match_count rows ≤ length (bytes_of text) + 1
report-few finds text pattern rows is = omega (arith, rows-few finds pattern (line_texts text) rows is, lines-room text)
