-- The matches of rows, one after another, and buffers that start with some of them.
use Rattle.std.proofs.Common.{◌≡◌, ℕ, suc, ◌+◌, ◌-◌, ◌<◌, ◌≤◌, List, [], ◌∷◌, ◌++◌, length, take, drop, map, set, get_or, ap, sym, ◌∙◌, append_assoc, append-nil, arith, refl}
use Rattle.std.proofs.lemmas.List.{take_more, take_all, length-take-le, length-append, map-append, length-map}
use Rattle.std.proofs.lemmas.List.Sums.{sum_by_more, sum_by-cons, sum_by-take-le, sum_by-take-drop}
use Rattle.rope_search_reports.specs.Report.{match_count}
use Rattle.rope_search_c.specs.Reading.{rows_between, span_in, spans_from, with_front}
use Rattle.rope_search_c.specs.declared.matches.Span.{Span}

-- ---- the matches of rows

pub spans_from-append : (line : ℕ) (xs ys : List (List (ℕ × ℕ))) → spans_from line (xs ++ ys) ≡ spans_from line xs ++ spans_from (line + length xs) ys
unfolding spans_from
spans_from-append line [] ys = ap (λ n. spans_from n ys) (omega arith)
spans_from-append line (x ∷ xs) ys =
    ap (λ l. map (span_in line) x ++ l) (spans_from-append (line + 1) xs ys ∙ ap (λ n. spans_from (line + 1) xs ++ spans_from n ys) (omega arith))
    ∙ sym (append_assoc (map (span_in line) x) (spans_from (line + 1) xs) (spans_from (line + length (x ∷ xs)) ys))

-- one more row
pub spans_from-more : (from : ℕ) (rows : List (List (ℕ × ℕ))) (i : ℕ) (d : List (ℕ × ℕ)) → i < length rows
    → spans_from from (take (i + 1) rows) ≡ spans_from from (take i rows) ++ map (span_in (from + i)) (get_or rows i d)
unfolding spans_from
spans_from-more from rows i d inside =
    let here : from + length (take i rows) ≡ from + i = omega (arith, length-take-le i rows (omega (arith, inside))) in
    ap (spans_from from) (take_more rows i d inside) ∙ spans_from-append from (take i rows) (get_or rows i d ∷ [])
    ∙ ap (λ n. spans_from from (take i rows) ++ spans_from n (get_or rows i d ∷ [])) here
    ∙ ap (λ l. spans_from from (take i rows) ++ l) (append-nil (map (span_in (from + i)) (get_or rows i d)))

-- their number is that counted
pub length-spans_from : (from : ℕ) (rows : List (List (ℕ × ℕ))) → length (spans_from from rows) ≡ match_count rows
unfolding spans_from
length-spans_from from [] = refl
length-spans_from from (row ∷ rows) =
    length-append (map (span_in from) row) (spans_from (from + 1) rows)
    ∙ omega (arith, length-map row (span_in from), length-spans_from (from + 1) rows, sum_by-cons length row rows)

-- one more match
pub spans-more : (line : ℕ) (row : List (ℕ × ℕ)) (i : ℕ) (d : ℕ × ℕ) → i < length row
    → map (span_in line) (take (i + 1) row) ≡ map (span_in line) (take i row) ++ span_in line (get_or row i d) ∷ []
spans-more line row i d inside = ap (map (span_in line)) (take_more row i d inside) ∙ map-append (span_in line) (take i row) (get_or row i d ∷ [])

-- ---- buffers

module _ {X : Type 0} where
  abbrev none : List X
  none = []

  take-nil : (n : ℕ) → take n none ≡ none
  take-nil n = take_all n none (omega arith)

  pub with_no_front : (first : List X) → first ≡ with_front [] first
  with_no_front first = ap (λ l. l ++ first) (sym (take-nil (length first)))

  -- one more element, which fits
  pub with_front-in : (done first : List X) (x : X) → length done < length first
      → set (with_front done first) (length done) x ≡ with_front (done ++ x ∷ []) first
  with_front-in [] [] x fits = absurd (omega (arith, fits))
  with_front-in [] (y ∷ first) x fits = ap (λ l. x ∷ (l ++ first)) (sym (take-nil (length first)))
  with_front-in (z ∷ done) [] x fits = absurd (omega (arith, fits))
  with_front-in (z ∷ done) (y ∷ first) x fits = ap (λ l. z ∷ l) (with_front-in done first x (omega (arith, fits)))

  -- one more element, for which there is no room
  pub with_front-out : (done first : List X) (x : X) → length first ≤ length done
      → with_front done first ≡ with_front (done ++ x ∷ []) first
  with_front-out [] [] x full = refl
  with_front-out [] (y ∷ first) x full = absurd (omega (arith, full))
  with_front-out (z ∷ done) [] x full = refl
  with_front-out (z ∷ done) (y ∷ first) x full = ap (λ l. z ∷ l) (with_front-out done first x (omega (arith, full)))

  pub length-with_front : (done first : List X) → length (with_front done first) ≡ length first
  length-with_front [] [] = refl
  length-with_front [] (y ∷ first) = ap (λ l. length (l ++ y ∷ first)) (take-nil (length (y ∷ first)))
  length-with_front (z ∷ done) [] = refl
  length-with_front (z ∷ done) (y ∷ first) = ap suc (length-with_front done first)

-- ---- one step of a copy

-- one more match, which fits
pub put-match-in : (line at i next : ℕ) (row : List (ℕ × ℕ)) (d : ℕ × ℕ) (done first out : List Span) → i < length row → next ≡ at + i → at ≡ length done
    → out ≡ with_front (done ++ map (span_in line) (take i row)) first → next < length out
    → set out next (span_in line (get_or row i d)) ≡ with_front (done ++ map (span_in line) (take (i + 1) row)) first
put-match-in line at i next row d done first out inside is here so fits =
    let before = done ++ map (span_in line) (take i row) in
    let len : length before ≡ next = length-append done (map (span_in line) (take i row))
    ∙ omega (arith, length-map (take i row) (span_in line), length-take-le i row (omega (arith, inside)), is, here) in
    ap (λ l. set l next (span_in line (get_or row i d))) so ∙ ap (λ n. set (with_front before first) n (span_in line (get_or row i d))) (sym len)
    ∙ with_front-in before first (span_in line (get_or row i d)) (omega (arith, len, fits, ap length so, length-with_front before first))
    ∙ ap (λ l. with_front l first) (append_assoc done (map (span_in line) (take i row)) (span_in line (get_or row i d) ∷ [])
    ∙ ap (λ l. done ++ l) (sym (spans-more line row i d inside)))

-- and one for which there is no room
pub put-match-out : (line at i next : ℕ) (row : List (ℕ × ℕ)) (d : ℕ × ℕ) (done first out : List Span) → i < length row → next ≡ at + i → at ≡ length done
    → out ≡ with_front (done ++ map (span_in line) (take i row)) first → length out ≤ next
    → out ≡ with_front (done ++ map (span_in line) (take (i + 1) row)) first
put-match-out line at i next row d done first out inside is here so full =
    let before = done ++ map (span_in line) (take i row) in
    let len : length before ≡ next = length-append done (map (span_in line) (take i row))
    ∙ omega (arith, length-map (take i row) (span_in line), length-take-le i row (omega (arith, inside)), is, here) in
    so ∙ with_front-out before first (span_in line (get_or row i d)) (omega (arith, len, full, ap length so, length-with_front before first))
    ∙ ap (λ l. with_front l first) (append_assoc done (map (span_in line) (take i row)) (span_in line (get_or row i d) ∷ [])
    ∙ ap (λ l. done ++ l) (sym (spans-more line row i d inside)))

-- the matches of one more row are counted
pub count-more : (rows : List (List (ℕ × ℕ))) (i : ℕ) (d row : List (ℕ × ℕ)) (at : ℕ) → i < length rows → row ≡ get_or rows i d → at ≡ match_count (take i rows)
    → at + length row ≡ match_count (take (i + 1) rows)
count-more rows i d row at inside is so = omega (arith, so, ap length is, sum_by_more length rows i d inside)

pub count-within : (rows : List (List (ℕ × ℕ))) (i : ℕ) → match_count (take i rows) ≤ match_count rows
count-within rows i = sum_by-take-le length rows i

-- rows between two lines have no more matches than all, and no line after the last one
pub count_between : (from to : ℕ) (rows : List (List (ℕ × ℕ))) → match_count (rows_between from to rows) ≤ match_count rows
count_between from to rows = omega (arith, sum_by-take-le length (drop from rows) (to - from), sum_by-take-drop length rows from)

-- and are after those before them
pub put-more : (from line i at : ℕ) (rows : List (List (ℕ × ℕ))) (d row : List (ℕ × ℕ)) (first out new : List Span) → i < length rows → row ≡ get_or rows i d
    → line ≡ from + i → at ≡ match_count (take i rows) → out ≡ with_front (spans_from from (take i rows)) first
    → ((done before : List Span) → out ≡ with_front done before → at ≡ length done → new ≡ with_front (done ++ map (span_in line) row) before)
    → new ≡ with_front (spans_from from (take (i + 1) rows)) first
put-more from line i at rows d row first out new inside is on count so put =
    let done = spans_from from (take i rows) in
    put done first so (count ∙ sym (length-spans_from from (take i rows)))
    ∙ ap (λ l. with_front l first) (ap (λ n. done ++ map (span_in n) row) on ∙ ap (λ r. done ++ map (span_in (from + i)) r) is
    ∙ sym (spans_from-more from rows i d inside))
