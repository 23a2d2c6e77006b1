-- The rows of the lines that are searched for a pending pattern.
use Rattle.std.proofs.Common.{◌≡◌, ℕ, zero, suc, ◌+◌, ◌-◌, ◌^◌, ◌<◌, ◌≤◌, min, max, Bool, true, false, map, List, [], ◌∷◌, ◌++◌, length, take, drop, inl, inr, refl, sym, ap, subst, ◌∙◌, arith, append_assoc, append-nil, length-append, length-take, chars}
use Rattle.std.specs.Prelude.{Option, None, Some, Result, Ok, Err, IfOk, OnOk, IfSome, MatchOption, option_map, slice_get}
use Rattle.std.specs.Global.{Vec}
use Rattle.std.specs.Str.{all_scalars, IsUtf8, IsCharBoundary}
use Rattle.std.proofs.Math.Seq.{take-append_seam, take-add}
use Rattle.std.proofs.lemmas.Bool.{cases_lt}
use Rattle.std.proofs.lemmas.List.{take-append-drop, take-take, take_all, take_min, length-drop, length-take-le}
use Rattle.std.proofs.lemmas.List.Sums.{sum_by-take-le, sum_by-take-drop}
use Rattle.std.proofs.lemmas.Str.{IsUtf8-take, chars-append, chars-encodes, encodes-chars}
use Rattle.str_indices.specs.Text.{byte_len}
use Rattle.rope_search_reports.specs.Laws.{HasFewMatches, HasOneListOfMatches, HasReport, PlacesAreInLines}
use Rattle.rope_search_reports.specs.Pattern.{IsPattern}
use Rattle.rope_search_reports.specs.Position.{line_at}
use Rattle.rope_search_reports.specs.Report.{line_texts, AreRows, IsReport, match_count}
use Rattle.rope_search_reports.specs.Splice.{EditsSpliceLines}
use Rattle.rope_search_reports.specs.Text.{IsText, bytes_of, line_count}
use Rattle.rope_search_reports.proofs.LineLemmas.{lines-counted}
use Rattle.rope_search_reports.proofs.ReportLaws.{AreRows-join}
use Rattle.rope_search_changes.specs.declared.Change.{Change}
use Rattle.rope_search_io.specs.declared.faults.Fault.{Fault}
use Rattle.rope_search_reports.specs.Ticks.{Ticks, MakesAsMany}
use Rattle.rope_search.specs.declared.search.Search.{Search}
use Rattle.rope_search.specs.declared.text_changes.TextChange.{TextChange}
use Rattle.rope_search.specs.Pending.{AreFirstRows, ArePendingRows, CompletesWindow, done_before}
use Rattle.rope_search.specs.Searched.{shown_pending}
use Rattle.rope_search.specs.Session.{LimitedBuffer, PendingPattern, current_text}
use Rattle.rope_search.specs.TextChanges.{AreTextChanges, range_from, ranges_from, ranges_in, turned_range}
use Rattle.rope_search.proofs.StretchLemmas.{alike, as-many, first-rows, last-rows}
use Rattle.rope_search.proofs.WindowLemmas.{two-parts}

-- ---- lines before the first change

-- a text in two parts, cut where a character begins
parted-at : (text : List ℕ) (place : ℕ) → all_scalars text ≡ true → IsCharBoundary (bytes_of text) place
    → (text ≡ chars (take place (bytes_of text)) ++ chars (drop place (bytes_of text))) × (byte_len (chars (take place (bytes_of text))) ≡ place)
parted-at text place scalars boundary =
    let bytes = bytes_of text in
    let utf8 : IsUtf8 bytes = (text, (scalars, refl)) in
    let first = IsUtf8-take bytes place utf8 boundary in (
      sym (chars-encodes text scalars) ∙ ap chars (sym (take-append-drop place bytes)) ∙ chars-append (take place bytes) (drop place bytes) first,
      ap length (encodes-chars (take place bytes) first) ∙ length-take-le place bytes boundary.0,
    )

-- the front of a list that is put together of another's front and more
front-kept : {A : Type 0} (old new x y : List A) (first : ℕ) → first ≤ length old → new ≡ take first old ++ x ++ y → take first new ≡ take first old
front-kept old new x y first within is =
    let long : length (take first old) ≡ first = omega (arith, length-take first old, within) in
    ap (take first) (is ∙ append_assoc (take first old) x y) ∙ ap (λ n. take n (take first old ++ (x ++ y))) (sym long) ∙ take-append_seam (take first old) (x ++ y)

-- those before the line in which the first range starts are the same in both texts
pub lines-before : EditsSpliceLines → PlacesAreInLines → (old new : List ℕ) (range : TextChange) (ranges : List TextChange) → all_scalars old ≡ true → all_scalars new ≡ true
    → AreTextChanges old new (range ∷ ranges)
    → take (line_at new range.new_start) (line_texts new) ≡ take (line_at new range.new_start) (line_texts old)
lines-before splices places old new range ranges scalars scalars' are =
    let next = are.0 in
    let front = chars (take range.new_start (bytes_of new)) in
    let gone = chars (drop range.old_start (bytes_of old)) in
    let come = chars (drop range.new_start (bytes_of new)) in
    let cut = parted-at old range.old_start scalars next.starts in
    let cut' = parted-at new range.new_start scalars' next.starts_new in
    let old_is : front ++ gone ++ [] ≡ old = append-nil (front ++ gone) ∙ sym (cut.0 ∙ ap (λ b. chars b ++ gone) next.same) in
    let new_is : front ++ come ++ [] ≡ new = append-nil (front ++ come) ∙ sym cut'.0 in
    let old' = front ++ gone ++ [] in
    let new' = front ++ come ++ [] in
    let line = line_at new' (byte_len front) in
    let splice = (splices front gone come []).0 in
    let kept : take line (line_texts new') ≡ take line (line_texts old') =
    front-kept (line_texts old') (line_texts new') _ _ line
    (omega (arith, splice.within, places old' (byte_len front + byte_len gone), lines-counted old')) splice.lines in
    subst (λ p. take (line_at new p) (line_texts new) ≡ take (line_at new p) (line_texts old)) cut'.1
    (subst (λ t. take (line_at t (byte_len front)) (line_texts t) ≡ take (line_at t (byte_len front)) (line_texts old)) new_is
    (subst (λ t. take line (line_texts new') ≡ take line (line_texts t)) old_is kept))

-- without a change the texts are the same
pub texts-same : (old new : List ℕ) → all_scalars old ≡ true → all_scalars new ≡ true → AreTextChanges old new [] → new ≡ old
texts-same old new scalars scalars' are = sym (chars-encodes new scalars') ∙ sym (ap chars are) ∙ chars-encodes old scalars

-- ---- first rows

-- of the rows of the first lines those of as many lines as two texts have in common
pub rows-before : (pattern old new : List ℕ) (rows : List (List (ℕ × ℕ))) (k : ℕ) → AreFirstRows old pattern (length rows) rows → k ≤ line_count new
    → take k (line_texts new) ≡ take k (line_texts old) → AreFirstRows new pattern (length (take k rows)) (take k rows)
rows-before pattern old new rows k are low same = elim (cases_lt (length rows) k) [
  | inl few ↦
      let all : take k rows ≡ rows = take_all k rows (omega (arith, few)) in
      let lines : take (length rows) (line_texts old) ≡ take (length rows) (line_texts new) =
      sym (take-take (length rows) k (line_texts old) (omega (arith, few))) ∙ ap (take (length rows)) (sym same) ∙ take-take (length rows) k (line_texts new) (omega (arith, few)) in
      subst (λ rs. AreFirstRows new pattern (length rs) rs) (sym all)
      (record { within = omega (arith, few, low); are = subst (λ ls. AreRows pattern ls rows) lines are.are })
  | inr many ↦
      let long : length (take k rows) ≡ k = omega (arith, length-take k rows, many) in
      let lines : take k (take (length rows) (line_texts old)) ≡ take k (line_texts new) = take-take k (length rows) (line_texts old) many ∙ sym same in
      subst (λ n. AreFirstRows new pattern n (take k rows)) (sym long)
      (record { within = low; are = subst (λ ls. AreRows pattern ls (take k rows)) lines (first-rows pattern (take (length rows) (line_texts old)) rows k are.are) })
]

-- further rows behind them
pub rows-further : (text pattern : List ℕ) (rows made : List (List (ℕ × ℕ))) (done end : ℕ) → AreFirstRows text pattern (length rows) rows → done ≡ length rows → done ≤ end → end ≤ line_count text
    → AreRows pattern (take (end - done) (drop done (line_texts text))) made → AreFirstRows text pattern (length (rows ++ made)) (rows ++ made)
rows-further text pattern rows made done end are is low within further =
    let lines = line_texts text in
    let all : done + (end - done) ≡ end = omega (arith, low) in
    let joined : AreRows pattern (take done lines ++ take (end - done) (drop done lines)) (rows ++ made) =
    AreRows-join pattern (take done lines) (take (end - done) (drop done lines)) rows made (subst (λ n. AreRows pattern (take n lines) rows) (sym is) are.are) further in
    let whole : AreRows pattern (take end lines) (rows ++ made) =
    subst (λ ls. AreRows pattern ls (rows ++ made)) (sym (take-add done (end - done) lines) ∙ ap (λ n. take n lines) all) joined in
    let long : length (rows ++ made) ≡ end = as-many pattern (take end lines) (rows ++ made) whole ∙ omega (arith, length-take end lines, within, lines-counted text) in
    subst (λ n. AreFirstRows text pattern n (rows ++ made)) (sym long) (record { within = within; are = whole })

-- those of all lines are the report
pub rows-all : (text pattern : List ℕ) (rows : List (List (ℕ × ℕ))) → AreFirstRows text pattern (length rows) rows → line_count text ≤ length rows → IsReport text pattern rows
rows-all text pattern rows are all =
    subst (λ ls. AreRows pattern ls rows) (take_all (length rows) (line_texts text) (omega (arith, all, lines-counted text))) are.are

-- they are the first of the report
pub first-of-report : HasOneListOfMatches → (text pattern : List ℕ) (done : ℕ) (rows report : List (List (ℕ × ℕ))) → AreFirstRows text pattern done rows → IsReport text pattern report
    → rows ≡ take done report
first-of-report law text pattern done rows report are is =
    alike law pattern (take done (line_texts text)) rows (take done report) are.are (first-rows pattern (line_texts text) report done is)

-- and so few
pub first-few : HasReport → HasFewMatches → HasOneListOfMatches → (text pattern : List ℕ) (done : ℕ) (rows : List (List (ℕ × ℕ))) → IsPattern pattern → byte_len text < 2 ^ 63
    → AreFirstRows text pattern done rows → match_count rows < 2 ^ 64
first-few has few law text pattern done rows is fits are =
    let report = has text pattern is in
    omega (arith, ap match_count (first-of-report law text pattern done rows report.0 are report.1), sum_by-take-le length report.0 done, few text pattern report.0 report.1, fits)

-- ---- a window

pub window-rows : (text pattern : List ℕ) (rows made : List (List (ℕ × ℕ))) (from to done end first : ℕ) → AreFirstRows text pattern done rows
    → end ≡ min to (line_count text) → first ≡ min (max from done) end → AreRows pattern (take (end - first) (drop first (line_texts text))) made
    → AreRows pattern (take (to - from) (drop from (line_texts text))) (take (to - from) (drop from rows) ++ made)
window-rows text pattern rows made from to done end first are ends starts further =
    let lines = line_texts text in
    let front = take done lines in
    let kept : AreRows pattern (take (to - from) (drop from front)) (take (to - from) (drop from rows)) =
    first-rows pattern (drop from front) (drop from rows) (to - from) (last-rows pattern front rows from are.are) in
    subst (λ ls. AreRows pattern ls (take (to - from) (drop from rows) ++ made))
    (two-parts from to done end first lines (omega (arith, are.within, lines-counted text)) (omega (arith, ends, lines-counted text)) starts)
    (AreRows-join pattern (take (to - from) (drop from front)) (take (end - first) (drop first lines)) (take (to - from) (drop from rows)) made kept further)

-- the rows that are made are as many as their lines
pub made-length : (text pattern : List ℕ) (made : List (List (ℕ × ℕ))) (first end : ℕ) → first ≤ end → end ≤ line_count text
    → AreRows pattern (take (end - first) (drop first (line_texts text))) made → length made ≡ end - first
made-length text pattern made first end low within are =
    let lines = drop first (line_texts text) in
    omega (arith, as-many pattern (take (end - first) lines) made are, length-take (end - first) lines, length-drop first (line_texts text), lines-counted text, low, within)

pub made-counted : (text pattern : List ℕ) (first end : ℕ) (old new : Ticks) → first ≤ end → end ≤ line_count text → (result : Result (Vec (List (ℕ × ℕ))) Fault)
    → IfOk result (λ rows. AreRows pattern (take (end - first) (drop first (line_texts text))) rows.items) → OnOk result (MakesAsMany (end - first) old new)
    → IfOk result (λ made. MakesAsMany (length made.items) old new)
made-counted text pattern first end old new low within (Ok made) are each =
    subst (λ n. MakesAsMany n old new) (sym (made-length text pattern made.items first end low within are)) each
made-counted text pattern first end old new low within (Err fault) are each = tt

-- its rows are among those of the report
pub window-few : HasReport → HasFewMatches → HasOneListOfMatches → (text pattern : List ℕ) (rows : List (List (ℕ × ℕ))) (from to : ℕ) → IsPattern pattern → byte_len text < 2 ^ 63
    → AreRows pattern (take (to - from) (drop from (line_texts text))) rows → match_count rows < 2 ^ 64
window-few has few law text pattern rows from to is fits are =
    let report = has text pattern is in
    let same : rows ≡ take (to - from) (drop from report.0) =
    alike law pattern (take (to - from) (drop from (line_texts text))) rows (take (to - from) (drop from report.0)) are
    (first-rows pattern (drop from (line_texts text)) (drop from report.0) (to - from) (last-rows pattern (line_texts text) report.0 from report.1)) in
    let fewer : match_count (drop from report.0) ≤ match_count report.0 = omega (arith, sum_by-take-drop length report.0 from) in
    omega (arith, ap match_count same, sum_by-take-le length (drop from report.0) (to - from), fewer, few text pattern report.0 report.1, fits)

-- ---- behind a change of a history

-- no line more is done
done-less : (text : List ℕ) (ranges : List TextChange) (done : ℕ) → done_before text ranges done ≤ done
done-less text [] done = omega arith
done-less text (range ∷ ranges) done = omega arith

pub kept-long : {A : Type 0} (text : List ℕ) (ranges : List TextChange) (rows : List A) (kept : ℕ) → kept ≡ done_before text ranges (length rows)
    → length (take kept rows) ≡ done_before text ranges (length rows)
kept-long text ranges rows kept is = omega (arith, length-take kept rows, is, done-less text ranges (length rows))

-- the rows of the lines before the change are those of the new text
pub kept-rows : EditsSpliceLines → PlacesAreInLines → (old text pattern : List ℕ) (ranges : List TextChange) (rows : List (List (ℕ × ℕ))) (kept : ℕ)
    → all_scalars old ≡ true → all_scalars text ≡ true → AreTextChanges old text ranges → AreFirstRows old pattern (length rows) rows → kept ≡ done_before text ranges (length rows)
    → AreFirstRows text pattern (length (take kept rows)) (take kept rows)
kept-rows splices places old text pattern [] rows kept scalars scalars' are rows-are is =
    subst (λ t. AreFirstRows t pattern (length (take kept rows)) (take kept rows)) (sym (texts-same old text scalars scalars' are))
    (subst (λ rs. AreFirstRows old pattern (length rs) rs) (sym (take_all kept rows (omega (arith, is)))) rows-are)
kept-rows splices places old text pattern (range ∷ ranges) rows kept scalars scalars' are rows-are is =
    let line = line_at text range.new_start in
    let fewer : take kept rows ≡ take line rows = ap (λ n. take n rows) (omega (arith, is)) ∙ take_min line rows in
    subst (λ rs. AreFirstRows text pattern (length rs) rs) (sym fewer)
    (rows-before pattern old text rows line rows-are (omega (arith, places text range.new_start)) (lines-before splices places old text range ranges scalars scalars' are))

-- the first change of a history starts where its range does
pub first-start : (is_back : Bool) (change : Change) (changes : List Change) → (range : TextChange) × (ranges : List TextChange)
    × (ranges_in is_back (change ∷ changes) ≡ range ∷ ranges) × (range.new_start ≡ change.new_start)
first-start false change changes = (range_from 0 0 change, ranges_from change.old_end change.new_end changes, refl, refl)
first-start true change changes =
    (turned_range (range_from 0 0 change), map turned_range (ranges_from change.old_end change.new_end changes), refl, omega arith)

pub first-none : (is_back : Bool) → ranges_in is_back [] ≡ []
first-none false = refl
first-none true = refl

-- what a slice begins with
pub begins-with : {A : Type 0} (xs : List A) (x : A) → slice_get xs 0 ≡ Some x → (ys : List A) × (xs ≡ x ∷ ys)
begins-with [] x is = absurd cc
begins-with (y ∷ ys) x is = let same : y ≡ x = cc in (ys, ap (λ z. z ∷ ys) same)

pub begins-not : {A : Type 0} (xs : List A) → slice_get xs 0 ≡ None → xs ≡ []
begins-not [] is = refl
begins-not (y ∷ ys) is = absurd cc

-- where it starts is in the text
pub start-within : (old text : List ℕ) (range : TextChange) (ranges : List TextChange) → AreTextChanges old text (range ∷ ranges) → range.new_start ≤ byte_len text
start-within old text range ranges are = are.0.starts_new.0

-- ---- a pattern that is begun

-- no line is done
pub holds-begun : (text pattern : List ℕ) (rows : List (List (ℕ × ℕ))) → IsText pattern → IsPattern pattern → rows ≡ []
    → IsText pattern × IsPattern pattern × AreFirstRows text pattern (length rows) rows
holds-begun text pattern rows is one none =
    (is, one, subst (λ rs. AreFirstRows text pattern (length rs) rs) (sym none) (record { within = omega arith; are = tt }))

-- ---- a window of a buffer

-- the pending rows of a buffer are those that it keeps
pub window-told : HasOneListOfMatches → (buffer : LimitedBuffer) (s : Search) (text : List ℕ) (made : List (List (ℕ × ℕ))) (from to : ℕ) → text ≡ current_text buffer.state
    → shown_pending (Some s) ≡ buffer.pending → AreFirstRows text s.finder (length s.rows.items) s.rows.items
    → AreRows s.finder (take (to - from) (drop from (line_texts text))) (take (to - from) (drop from s.rows.items) ++ made)
    → (pending : PendingPattern) (rows : List (List (ℕ × ℕ))) → buffer.pending ≡ Some pending → ArePendingRows buffer rows
    → (s.finder ≡ pending.pattern) × (rows ≡ s.rows.items)
window-told law buffer s text made from to there shown own told pending rows is are =
    let mine : PendingPattern = record { pattern = s.finder; done = length s.rows.items } in
    let both : Some mine ≡ Some pending = shown ∙ is in
    let same : mine ≡ pending = cc in
    let at : AreFirstRows (current_text buffer.state) pending.pattern pending.done rows =
    subst (λ o. MatchOption o (rows ≡ []) (λ (p : PendingPattern). AreFirstRows (current_text buffer.state) p.pattern p.done rows)) is are in
    let here : AreFirstRows text s.finder (length s.rows.items) rows =
    subst (λ (p : PendingPattern). AreFirstRows text p.pattern p.done rows) (sym same) (subst (λ t. AreFirstRows t pending.pattern pending.done rows) (sym there) at) in
    (ap (λ (p : PendingPattern). p.pattern) same, alike law s.finder (take (length s.rows.items) (line_texts text)) rows s.rows.items here.are own.are)

pub window-completed : HasOneListOfMatches → (buffer : LimitedBuffer) (s : Search) (text : List ℕ) (made : List (List (ℕ × ℕ))) (from to : ℕ) → text ≡ current_text buffer.state
    → shown_pending (Some s) ≡ buffer.pending → AreFirstRows text s.finder (length s.rows.items) s.rows.items
    → AreRows s.finder (take (to - from) (drop from (line_texts text))) (take (to - from) (drop from s.rows.items) ++ made) → CompletesWindow buffer from to made
window-completed law buffer s text made from to there shown own told = λ pending rows is are.
    let both = window-told law buffer s text made from to there shown own told pending rows is are in
    subst (λ f. AreRows f (take (to - from) (drop from (line_texts (current_text buffer.state)))) (take (to - from) (drop from rows) ++ made)) both.0
    (subst (λ t. AreRows s.finder (take (to - from) (drop from (line_texts t))) (take (to - from) (drop from rows) ++ made)) there
    (subst (λ rs. AreRows s.finder (take (to - from) (drop from (line_texts text))) (take (to - from) (drop from rs) ++ made)) (sym both.1) told))
