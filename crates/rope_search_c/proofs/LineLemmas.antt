-- Rows with columns in another encoding, and where they are in a buffer.
use Rattle.std.proofs.Common.{◌≡◌, ℕ, zero, suc, ◌+◌, ◌-◌, ◌^◌, ◌<◌, ◌≤◌, List, [], ◌∷◌, ◌++◌, length, take, drop, map, get_or, refl, ap, sym, subst, ◌∙◌, arith, append-nil, inl, inr}
use Rattle.std.specs.Prelude.{All, Option, None, Some}
use Rattle.std.proofs.lemmas.Bool.{cases_lt}
use Rattle.std.proofs.lemmas.List.{length-map, length-take-le, length-take, length-drop, get_or-map, get_or-take, get_or-drop}
use Rattle.std.proofs.lemmas.List.Elements.{All-nil}
use Rattle.std.proofs.lemmas.List.Sums.{sum_by-cons}
use Rattle.rope_search_reports.specs.Laws.{HasARowALine}
use Rattle.rope_search_reports.specs.Position.{line_text}
use Rattle.rope_search_reports.specs.Report.{IsReport, match_count}
use Rattle.rope_search_reports.specs.Text.{IsText, line_count}
use Rattle.rope_search.specs.LineColumns.{AreColumnsOf, ReportsHaveColumns, columns_as, rows_as}
use Rattle.rope_search.specs.Session.{BufferState, IsReportIn, current_text}
use Rattle.rope_search.specs.declared.encodings.Encoding.{Encoding}
use Rattle.rope_search_c.specs.Reading.{rows_between}

-- an element inside the list, whatever the default
pub same-inside : {X : Type 0} (xs : List X) (i : ℕ) (d e : X) → i < length xs → get_or xs i d ≡ get_or xs i e
same-inside [] i d e inside = absurd (omega (arith, inside))
same-inside (x ∷ xs) zero d e inside = refl
same-inside (x ∷ xs) (suc i) d e inside = same-inside xs i d e (omega (arith, inside))

-- ---- rows in an encoding

pub length-as : (e : Encoding) (text : List ℕ) (line : ℕ) (rows : List (List (ℕ × ℕ))) → length (rows_as e text line rows) ≡ length rows
unfolding rows_as
length-as e text line [] = refl
length-as e text line (row ∷ rows) = ap suc (length-as e text (line + 1) rows)

-- one of them
pub row-as : (e : Encoding) (text : List ℕ) (line : ℕ) (rows : List (List (ℕ × ℕ))) (i : ℕ)
    → get_or (rows_as e text line rows) i [] ≡ map (columns_as e (line_text text (line + i))) (get_or rows i [])
unfolding rows_as
row-as e text line [] i = refl
row-as e text line (row ∷ rows) zero = ap (λ n. map (columns_as e (line_text text n)) row) (omega arith)
row-as e text line (row ∷ rows) (suc i) =
    row-as e text (line + 1) rows i ∙ ap (λ n. map (columns_as e (line_text text n)) (get_or rows i [])) (omega arith)

-- they have equally many matches
pub counts-as : (e : Encoding) (text : List ℕ) (line : ℕ) (rows : List (List (ℕ × ℕ))) (i : ℕ)
    → match_count (take i (rows_as e text line rows)) ≡ match_count (take i rows)
unfolding rows_as
counts-as e text line [] zero = refl
counts-as e text line [] (suc i) = refl
counts-as e text line (row ∷ rows) zero = refl
counts-as e text line (row ∷ rows) (suc i) =
    let own = map (columns_as e (line_text text line)) row in
    omega (
      arith,
      sum_by-cons length own (take i (rows_as e text (line + 1) rows)),
      sum_by-cons length row (take i rows),
      length-map row (columns_as e (line_text text line)),
      counts-as e text (line + 1) rows i,
    )

-- ---- rows between two lines of a report

between-length : (from to : ℕ) (rows : List (List (ℕ × ℕ))) → length (rows_between from to rows) ≤ length rows - from
between-length from to rows = omega (arith, length-take (to - from) (drop from rows), length-drop from rows)

-- one of them, or none
pub row-between : (from to : ℕ) (rows : List (List (ℕ × ℕ))) (k : ℕ) → k < length (rows_between from to rows)
    → (get_or (rows_between from to rows) k [] ≡ get_or rows (from + k) []) × (from + k < length rows)
row-between from to rows k inside =
    let few = between-length from to rows in
    let below : k < to - from = omega (arith, inside, length-take (to - from) (drop from rows)) in
    (get_or-take (to - from) (drop from rows) k [] below ∙ get_or-drop from rows k [], omega (arith, inside, few))

pub few-between : (from to : ℕ) (rows : List (List (ℕ × ℕ))) → from < 2 ^ 64 → length rows < 2 ^ 64 → from + length (rows_between from to rows) < 2 ^ 64
few-between from to rows low few = omega (arith, low, few, between-length from to rows)

past_end : {X : Type 0} (xs : List X) (i : ℕ) (d : X) → length xs ≤ i → get_or xs i d ≡ d
past_end [] i d past = refl
past_end (x ∷ xs) zero d past = absurd (omega (arith, past))
past_end (x ∷ xs) (suc i) d past = past_end xs i d (omega (arith, past))

-- the report's rows are those of lines of the text, and their columns are columns of these
pub record AreOfLines (text : List ℕ) (rows : List (List (ℕ × ℕ))) : Type 0 where
  pub inside : (k : ℕ) → k < length rows → k < line_count text
  pub columns : (k : ℕ) → All (AreColumnsOf (line_text text k)) (get_or rows k [])

of_none : (text : List ℕ) (rows : List (List (ℕ × ℕ))) → rows ≡ [] → AreOfLines text rows
of_none text rows none = record {
  inside = λ k low. absurd (omega (arith, low, ap length none));
  columns = λ k. subst (λ rs. All (AreColumnsOf (line_text text k)) (get_or rs k [])) (sym none) (All-nil (AreColumnsOf (line_text text k)));
}

of_pattern : HasARowALine → ReportsHaveColumns → (b : BufferState) (rows : List (List (ℕ × ℕ))) (pattern : Option (List ℕ)) → b.pattern ≡ pattern → IsText (current_text b)
    → IsReportIn (record b { pattern = pattern }) rows → AreOfLines (current_text b) rows
of_pattern a_row columns b rows None is scalars are = of_none (current_text b) rows are
of_pattern a_row columns b rows (Some p) is scalars are =
    let count = a_row (current_text b) p rows are in
    record {
      inside = λ k low. omega (arith, low, count);
      columns = λ k. columns (current_text b) p rows k scalars are;
    }

pub of-lines : HasARowALine → ReportsHaveColumns → (b : BufferState) (rows : List (List (ℕ × ℕ))) → IsText (current_text b) → IsReportIn b rows → AreOfLines (current_text b) rows
of-lines a_row columns b rows scalars are = of_pattern a_row columns b rows b.pattern refl scalars are

-- so are those between two of them
pub columns-between : (from to : ℕ) (text : List ℕ) (rows : List (List (ℕ × ℕ))) → AreOfLines text rows → (k : ℕ)
    → All (AreColumnsOf (line_text text (from + k))) (get_or (rows_between from to rows) k [])
columns-between from to text rows of k = elim (cases_lt k (length (rows_between from to rows))) [
  | inl inside ↦
      subst (All (AreColumnsOf (line_text text (from + k)))) (sym (row-between from to rows k inside).0) (of.columns (from + k))
  | inr past ↦
      subst (All (AreColumnsOf (line_text text (from + k)))) (sym (past_end (rows_between from to rows) k [] (omega (arith, past)))) (All-nil (AreColumnsOf (line_text text (from + k))))
]
