-- A text and a pattern have one report.
use Rattle.std.proofs.Common.{◌≡◌, ℕ, suc, List, [], ◌∷◌, ◌++◌, length, map, refl, sym, ap, subst, ◌∙◌}
use Rattle.regex_cursor.specs.Patterns.{FoundMatch, TreeMatches, search_from}
use Rattle.regex_cursor.specs.PatternLaws.{SpellsOneTree}
use Rattle.rope_search_reports.specs.Text.{bytes_of, line_count}
use Rattle.rope_search_reports.specs.Pattern.{IsPattern, span_of}
use Rattle.rope_search_reports.specs.Matches.{AreMatches, IsMatches}
use Rattle.rope_search_reports.specs.Report.{line_texts, IsRow, AreRows, IsReport, columns}
use Rattle.rope_search_reports.specs.Laws.{HasMatches}
use Rattle.rope_search_reports.proofs.LineLemmas.{lines-counted}
use Rattle.rope_search_reports.proofs.MatchLemmas.{AllHaveFinds}

-- ---- at most one

pub matches-one : SpellsOneTree → AllHaveFinds → (pattern content : List ℕ) (ms ns : List FoundMatch) → AreMatches pattern content ms → AreMatches pattern content ns → ms ≡ ns
matches-one trees finds pattern content ms ns one other =
    let same = trees pattern other.tree one.tree other.spells one.spells in
    let moved_to : TreeMatches one.tree content ns = subst (λ tree. TreeMatches tree content ns) same other.are in
    (finds one.tree).one_list (search_from content 0) ms ns one.are moved_to

pub list-one : SpellsOneTree → AllHaveFinds → (pattern content : List ℕ) (spans spans' : List (ℕ × ℕ)) → IsMatches pattern content spans → IsMatches pattern content spans' → spans ≡ spans'
list-one trees finds pattern content spans spans' one other =
    one.spans_are ∙ ap (map span_of) (matches-one trees finds pattern content one.matches other.matches one.are other.are) ∙ sym other.spans_are

abbrev pub OneList : Type 0
OneList = (pattern content : List ℕ) (spans spans' : List (ℕ × ℕ)) → IsMatches pattern content spans → IsMatches pattern content spans' → spans ≡ spans'

pub IsRow-one : OneList → (pattern line : List ℕ) (row row' : List (ℕ × ℕ)) → IsRow pattern line row → IsRow pattern line row' → row ≡ row'
IsRow-one law pattern line row row' one other =
    one.shown ∙ ap (map (columns (bytes_of line))) (law pattern (bytes_of line) one.spans other.spans one.are other.are) ∙ sym other.shown

AreRows-one : OneList → (pattern : List ℕ) (lines : List (List ℕ)) (rows rows' : List (List (ℕ × ℕ))) → AreRows pattern lines rows → AreRows pattern lines rows' → rows ≡ rows'
AreRows-one law pattern [] [] [] one other = refl
AreRows-one law pattern [] (row ∷ rows) rows' one other = absurd one
AreRows-one law pattern [] [] (row ∷ rows') one other = absurd other
AreRows-one law pattern (line ∷ lines) [] rows' one other = absurd one
AreRows-one law pattern (line ∷ lines) (row ∷ rows) [] one other = absurd other
AreRows-one law pattern (line ∷ lines) (row ∷ rows) (row' ∷ rows') one other =
    ap (λ r. r ∷ rows) (IsRow-one law pattern line row row' one.0 other.0) ∙ ap (λ rs. row' ∷ rs) (AreRows-one law pattern lines rows rows' one.1 other.1)

pub report-one : OneList → (text pattern : List ℕ) (rows rows' : List (List (ℕ × ℕ))) → IsReport text pattern rows → IsReport text pattern rows' → rows ≡ rows'
report-one law text pattern rows rows' one other = AreRows-one law pattern (line_texts text) rows rows' one other

-- ---- and one

pub has-matches : AllHaveFinds → HasMatches
has-matches finds pattern content is =
    let list = (finds is.0).has_list (search_from content 0) in (
      map span_of list.0,
      record { matches = list.0; are = record { tree = is.0; spells = is.1.spells; are = list.1 }; spans_are = refl },
    )

has-row : HasMatches → (pattern line : List ℕ) → IsPattern pattern → (row : List (ℕ × ℕ)) × IsRow pattern line row
has-row law pattern line is =
    let list = law pattern (bytes_of line) is in
    (map (columns (bytes_of line)) list.0, record { spans = list.0; are = list.1; shown = refl })

has-rows : HasMatches → (pattern : List ℕ) (lines : List (List ℕ)) → IsPattern pattern → (rows : List (List (ℕ × ℕ))) × AreRows pattern lines rows
has-rows law pattern [] is = ([], tt)
has-rows law pattern (line ∷ lines) is =
    let first = has-row law pattern line is in
    let others = has-rows law pattern lines is in
    (first.0 ∷ others.0, (first.1, others.1))

pub has-report : HasMatches → (text pattern : List ℕ) → IsPattern pattern → (rows : List (List (ℕ × ℕ))) × IsReport text pattern rows
has-report law text pattern is = has-rows law pattern (line_texts text) is

-- ---- a row for each line

pub AreRows-length : (pattern : List ℕ) (lines : List (List ℕ)) (rows : List (List (ℕ × ℕ))) → AreRows pattern lines rows → length rows ≡ length lines
AreRows-length pattern [] [] are = refl
AreRows-length pattern [] (row ∷ rows) are = absurd are
AreRows-length pattern (line ∷ lines) [] are = absurd are
AreRows-length pattern (line ∷ lines) (row ∷ rows) are = ap suc (AreRows-length pattern lines rows are.1)

pub report-length : (text pattern : List ℕ) (rows : List (List (ℕ × ℕ))) → IsReport text pattern rows → length rows ≡ line_count text
report-length text pattern rows is = AreRows-length pattern (line_texts text) rows is ∙ lines-counted text

-- ---- rows of some lines, and of others

pub AreRows-join : (pattern : List ℕ) (lines lines' : List (List ℕ)) (rows rows' : List (List (ℕ × ℕ))) → AreRows pattern lines rows → AreRows pattern lines' rows'
    → AreRows pattern (lines ++ lines') (rows ++ rows')
AreRows-join pattern [] lines' [] rows' are are' = are'
AreRows-join pattern [] lines' (row ∷ rows) rows' are are' = absurd are
AreRows-join pattern (line ∷ lines) lines' [] rows' are are' = absurd are
AreRows-join pattern (line ∷ lines) lines' (row ∷ rows) rows' are are' = (are.0, AreRows-join pattern lines lines' rows rows' are.1 are')
