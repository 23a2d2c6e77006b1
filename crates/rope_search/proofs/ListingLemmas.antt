-- How a report is shown, row by row.
use Rattle.std.proofs.Common.{◌≡◌, ℕ, ◌+◌, ◌<◌, ◌≤◌, List, [], ◌∷◌, ◌++◌, length, take, drop, get_or, flat_map, ap, sym, subst, ◌∙◌, append_assoc, append-nil, take-append-drop, arith}
use Rattle.std.proofs.lemmas.List.{take_more, take_all, length-take-le}
use Rattle.std.proofs.lemmas.List.Concat.{flat_map-append}
use Rattle.std.proofs.lemmas.List.Sums.{sum_by_more}
use Rattle.rope_search_reports.specs.Report.{match_count}
use Rattle.rope_search.specs.Shows.{shown_match, shown_rows, shown_number, shown_report}
use Rattle.rope_search_io.specs.Sources.{SinkState}
use Rattle.rope_search_io.specs.WriteBuffer.{Writes, WritesUntil, Puts}
use Rattle.rope_search_io.specs.declared.faults.Broken.{Broken}
use Rattle.rope_search.proofs.PutLemmas.{Puts-trans, Writes-put, WritesUntil-put}
use Rattle.std.specs.Prelude.{Result, Ok, Err, MatchResult}

-- ---- rows that are shown

pub shown_rows-append : (n : ℕ) (xs ys : List (List (ℕ × ℕ))) → shown_rows n (xs ++ ys) ≡ shown_rows n xs ++ shown_rows (n + length xs) ys
shown_rows-append n [] ys = ap (λ m. shown_rows m ys) (omega arith)
shown_rows-append n (x ∷ xs) ys =
    ap (λ l. flat_map (shown_match n) x ++ l) (shown_rows-append (n + 1) xs ys ∙ ap (λ m. shown_rows (n + 1) xs ++ shown_rows m ys) (omega arith))
    ∙ sym (append_assoc (flat_map (shown_match n) x) (shown_rows (n + 1) xs) (shown_rows (n + length (x ∷ xs)) ys))

-- one more row
pub shown_rows-more : (rows : List (List (ℕ × ℕ))) (i : ℕ) (d : List (ℕ × ℕ)) → i < length rows
    → shown_rows 0 (take (i + 1) rows) ≡ shown_rows 0 (take i rows) ++ flat_map (shown_match i) (get_or rows i d)
shown_rows-more rows i d inside =
    let here : 0 + length (take i rows) ≡ i = omega (arith, length-take-le i rows (omega (arith, inside))) in
    let one : shown_rows i (get_or rows i d ∷ []) ≡ flat_map (shown_match i) (get_or rows i d) = append-nil (flat_map (shown_match i) (get_or rows i d)) in
    ap (shown_rows 0) (take_more rows i d inside) ∙ shown_rows-append 0 (take i rows) (get_or rows i d ∷ [])
    ∙ ap (λ m. shown_rows 0 (take i rows) ++ shown_rows m (get_or rows i d ∷ [])) here ∙ ap (λ l. shown_rows 0 (take i rows) ++ l) one

-- a row between those before and those after it
pub shown_rows-split : (rows : List (List (ℕ × ℕ))) (i : ℕ) (d : List (ℕ × ℕ)) (rest : List ℕ) → i < length rows
    → shown_rows 0 rows ++ rest ≡ shown_rows 0 (take i rows) ++ (flat_map (shown_match i) (get_or rows i d) ++ (shown_rows (i + 1) (drop (i + 1) rows) ++ rest))
shown_rows-split rows i d rest inside =
    let front : 0 + length (take (i + 1) rows) ≡ i + 1 = omega (arith, length-take-le (i + 1) rows (omega (arith, inside))) in
    let here = flat_map (shown_match i) (get_or rows i d) in
    let behind = shown_rows (i + 1) (drop (i + 1) rows) in
    let split : shown_rows 0 rows ≡ (shown_rows 0 (take i rows) ++ here) ++ behind =
    ap (shown_rows 0) (sym (take-append-drop (i + 1) rows)) ∙ shown_rows-append 0 (take (i + 1) rows) (drop (i + 1) rows)
    ∙ ap (λ m. shown_rows 0 (take (i + 1) rows) ++ shown_rows m (drop (i + 1) rows)) front ∙ ap (λ l. l ++ behind) (shown_rows-more rows i d inside) in
    ap (λ l. l ++ rest) split ∙ append_assoc (shown_rows 0 (take i rows) ++ here) behind rest ∙ append_assoc (shown_rows 0 (take i rows)) here (behind ++ rest)

-- ---- matches that are shown

-- one more match
pub shown_matches-more : (line : ℕ) (row : List (ℕ × ℕ)) (i : ℕ) (d : ℕ × ℕ) → i < length row
    → flat_map (shown_match line) (take (i + 1) row) ≡ flat_map (shown_match line) (take i row) ++ shown_match line (get_or row i d)
shown_matches-more line row i d inside =
    ap (flat_map (shown_match line)) (take_more row i d inside) ∙ flat_map-append (shown_match line) (take i row) (get_or row i d ∷ [])
    ∙ ap (λ l. flat_map (shown_match line) (take i row) ++ l) (append-nil (shown_match line (get_or row i d)))

-- a match between those before and those after it
pub shown_matches-split : (line : ℕ) (row : List (ℕ × ℕ)) (i : ℕ) (d : ℕ × ℕ) → i < length row
    → flat_map (shown_match line) row ≡ flat_map (shown_match line) (take i row) ++ (shown_match line (get_or row i d) ++ flat_map (shown_match line) (drop (i + 1) row))
shown_matches-split line row i d inside =
    let shown = flat_map (shown_match line) in
    ap shown (sym (take-append-drop (i + 1) row)) ∙ flat_map-append (shown_match line) (take (i + 1) row) (drop (i + 1) row)
    ∙ ap (λ l. l ++ shown (drop (i + 1) row)) (shown_matches-more line row i d inside)
    ∙ append_assoc (shown (take i row)) (shown_match line (get_or row i d)) (shown (drop (i + 1) row))

-- ---- what was written of a report

-- one more match was appended to the buffered bytes
pub Puts-match : (line i : ℕ) (row : List (ℕ × ℕ)) (d : ℕ × ℕ) (old mid new : List ℕ) (a b c : SinkState) → i < length row
    → Puts old mid a b (flat_map (shown_match line) (take i row)) → Puts mid new b c (shown_match line (get_or row i d))
    → Puts old new a c (flat_map (shown_match line) (take (i + 1) row))
Puts-match line i row d old mid new a b c inside p q =
    subst (Puts old new a c) (sym (shown_matches-more line row i d inside)) (Puts-trans old mid new a b c (flat_map (shown_match line) (take i row)) (shown_match line (get_or row i d)) p q)

-- a match was written in part
pub WritesUntil-match : (broken : Broken) (line i : ℕ) (row : List (ℕ × ℕ)) (d : ℕ × ℕ) (old mid : List ℕ) (a b c : SinkState) → i < length row
    → Puts old mid a b (flat_map (shown_match line) (take i row)) → WritesUntil broken b c (mid ++ shown_match line (get_or row i d))
    → WritesUntil broken a c (old ++ flat_map (shown_match line) row)
WritesUntil-match broken line i row d old mid a b c inside p q =
    subst (λ l. WritesUntil broken a c (old ++ l)) (sym (shown_matches-split line row i d inside))
    (WritesUntil-put broken old mid (flat_map (shown_match line) (take i row)) (shown_match line (get_or row i d)) (flat_map (shown_match line) (drop (i + 1) row)) a b c p q)

-- one more row was appended to the buffered bytes
pub Puts-row : (line i : ℕ) (rows : List (List (ℕ × ℕ))) (d : List (ℕ × ℕ)) (row : List (ℕ × ℕ)) (old mid new : List ℕ) (a b c : SinkState) → i < length rows → line ≡ i
    → row ≡ get_or rows i d → Puts old mid a b (shown_rows 0 (take i rows)) → Puts mid new b c (flat_map (shown_match line) row)
    → Puts old new a c (shown_rows 0 (take (i + 1) rows))
Puts-row line i rows d row old mid new a b c inside is row-is p q =
    subst (Puts old new a c) (sym (shown_rows-more rows i d inside))
    (Puts-trans old mid new a b c (shown_rows 0 (take i rows)) (flat_map (shown_match i) (get_or rows i d)) p
    (subst (λ n. Puts mid new b c (flat_map (shown_match n) (get_or rows i d))) is (subst (λ r. Puts mid new b c (flat_map (shown_match line) r)) row-is q)))

-- and its matches are counted
pub count-row : (rows : List (List (ℕ × ℕ))) (i : ℕ) (d row : List (ℕ × ℕ)) (count : ℕ) → i < length rows → row ≡ get_or rows i d
    → count ≡ match_count (take i rows) → count + length row ≡ match_count (take (i + 1) rows)
count-row rows i d row count inside is sofar = omega (arith, sofar, ap length is, sum_by_more length rows i d inside)

-- a row was written in part
pub WritesUntil-row : (broken : Broken) (line i : ℕ) (rows : List (List (ℕ × ℕ))) (d row : List (ℕ × ℕ)) (mid : List ℕ) (a b c : SinkState) → i < length rows → line ≡ i
    → row ≡ get_or rows i d → Puts [] mid a b (shown_rows 0 (take i rows)) → WritesUntil broken b c (mid ++ flat_map (shown_match line) row)
    → WritesUntil broken a c (shown_report rows)
WritesUntil-row broken line i rows d row mid a b c inside is row-is p q =
    let last = shown_number (match_count rows) in
    subst (WritesUntil broken a c) (sym (shown_rows-split rows i d last inside))
    (WritesUntil-put broken [] mid (shown_rows 0 (take i rows)) (flat_map (shown_match i) (get_or rows i d)) (shown_rows (i + 1) (drop (i + 1) rows) ++ last) a b c p
    (subst (λ n. WritesUntil broken b c (mid ++ flat_map (shown_match n) (get_or rows i d))) is (subst (λ r. WritesUntil broken b c (mid ++ flat_map (shown_match line) r)) row-is q)))

-- all rows were put, and then their number was written, or a prefix of that
pub Writes-report : (r : Result Unit Broken) (rows : List (List (ℕ × ℕ))) (count i : ℕ) (tail mid : List ℕ) (a b c : SinkState) → length rows ≤ i
    → count ≡ match_count (take i rows) → Puts [] mid a b (shown_rows 0 (take i rows)) → tail ≡ shown_number count
    → MatchResult r (λ _. Writes b c (mid ++ tail)) (λ broken. WritesUntil broken b c (mid ++ tail))
    → MatchResult r (λ _. Writes a c (shown_report rows)) (λ broken. WritesUntil broken a c (shown_report rows))
Writes-report r rows count i tail mid a b c all counted p is sent = by r sent
  where
    same : take i rows ≡ rows
    same = take_all i rows all

    last : tail ≡ shown_number (match_count rows)
    last = is ∙ ap shown_number (counted ∙ ap match_count same)

    put : Puts [] mid a b (shown_rows 0 rows)
    put = subst (λ rs. Puts [] mid a b (shown_rows 0 rs)) same p

    by : (r : Result Unit Broken) → MatchResult r (λ _. Writes b c (mid ++ tail)) (λ broken. WritesUntil broken b c (mid ++ tail))
        → MatchResult r (λ _. Writes a c (shown_report rows)) (λ broken. WritesUntil broken a c (shown_report rows))
    by (Ok done) sent = subst (λ l. Writes a c (shown_rows 0 rows ++ l)) last (Writes-put [] mid (shown_rows 0 rows) tail a b c put sent)
    by (Err broken) sent =
        subst (λ l. WritesUntil broken a c (shown_rows 0 rows ++ l)) (append-nil tail ∙ last)
        (WritesUntil-put broken [] mid (shown_rows 0 rows) tail [] a b c put sent)
