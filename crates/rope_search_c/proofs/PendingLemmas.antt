-- The matches of a window, put at a buffer's front in two parts.
use Rattle.std.proofs.Common.{◌≡◌, ℕ, zero, suc, ◌+◌, ◌-◌, ◌^◌, ◌<◌, ◌⊎◌, ◌↔◌, inl, inr, min, List, [], ◌∷◌, ◌++◌, length, length-take, take, drop, refl, ap, sym, subst, ◌∙◌, arith}
use Rattle.std.proofs.lemmas.List.{length-drop}
use Rattle.std.proofs.lemmas.List.Sums.{sum_by-append}
use Rattle.rope_search_reports.specs.Report.{AreRows, line_texts, match_count}
use Rattle.rope_search_reports.specs.Text.{line_count}
use Rattle.rope_search_reports.proofs.LineLemmas.{lines-counted}
use Rattle.rope_search_reports.proofs.ReportLaws.{AreRows-length}
use Rattle.rope_search_c.specs.Pending.{CopiesWindow, PutsRows, PutsWindow, pending_in}
use Rattle.rope_search_c.specs.declared.counting.CountingSession.{CountingSession}
use Rattle.rope_search_c.specs.declared.matches.Span.{Span}
use Rattle.std.specs.Global.{Vec}
use Rattle.std.specs.Prelude.{Option, None, Some, Result, Err, IfSome, MatchOption}
use Rattle.rope_search_io.specs.Faults.{rank_of}
use Rattle.rope_search_io.specs.declared.faults.Fault.{Fault}
use Rattle.rope_search_io.specs.declared.faults.Fault.TheVariants.{Nothing, Memory}
use Rattle.rope_search_reports.specs.Ticks.{MakesAtMost}
use Rattle.rope_search.specs.Pending.{ArePendingRows, CompletesWindow, lines_left}
use Rattle.rope_search.specs.Session.{PendingPattern, chosen_buffer, chosen_in, current_text}
use Rattle.rope_search_c.specs.Reading.{rows_between, spans_from, text_in, with_front}
use Rattle.rope_search_c.proofs.SpanLemmas.{length-spans_from, length-with_front, spans_from-append, with_no_front}

-- no element is left of none
none-left : {X : Type 0} (ys zs : List X) → zs ≡ [] → drop (length ys) zs ≡ zs
none-left [] zs is = refl
none-left (y ∷ ys) zs is = rw is refl

-- further elements, put behind those that are at the front, as far as there is room
pub fronts-joined : {X : Type 0} (xs ys out : List X) (n : ℕ) → n ≡ min (length xs) (length out)
    → take n (with_front xs out) ++ with_front ys (drop n (with_front xs out)) ≡ with_front (xs ++ ys) out
fronts-joined [] ys out zero is = ap (with_front ys) (sym (with_no_front out))
fronts-joined [] ys out (suc n) is = absurd (omega (arith, is))
fronts-joined (x ∷ xs) ys [] zero is = none-left ys [] refl
fronts-joined (x ∷ xs) ys [] (suc n) is = absurd (omega (arith, is))
fronts-joined (x ∷ xs) ys (y ∷ out) zero is = absurd (omega (arith, is))
fronts-joined (x ∷ xs) ys (y ∷ out) (suc n) is = ap (λ l. x ∷ l) (fronts-joined xs ys out n (omega (arith, is)))

-- ---- whether a pattern is pending

pub at-none : (o : Option PendingPattern) (P : Type 0) (Q : PendingPattern → Type 0) → o ≡ None → P → MatchOption o P Q
at-none o P Q is p = subst (λ x. MatchOption x P Q) (sym is) p

pub at-some : (o : Option PendingPattern) (P : Type 0) (Q : PendingPattern → Type 0) → (o ≡ None → ⊥) → ((p : PendingPattern) → o ≡ Some p → Q p) → MatchOption o P Q
at-some None P Q some each = absurd (some refl)
at-some (Some p) P Q some each = each p refl

-- ---- a window

-- its matches are those of both parts
pub window-put : (from found found' room : ℕ) (done made : List (List (ℕ × ℕ))) (out out' rest rest' : List Span) → found ≡ match_count done → found' ≡ match_count made
    → out' ≡ with_front (spans_from from done) out → room ≡ min found (length out') → rest ≡ drop room out' → rest' ≡ with_front (spans_from (from + length done) made) rest
    → PutsRows from (done ++ made) (found + found') out (take room out' ++ rest')
window-put from found found' room done made out out' rest rest' counts counts' put fits left put' =
    let xs = spans_from from done in
    let ys = spans_from (from + length done) made in
    let long : room ≡ min (length xs) (length out) =
    omega (arith, fits, counts, length-spans_from from done, ap length put, length-with_front xs out) in
    record {
      counted = omega (arith, counts, counts', sum_by-append length done made);
      copied =
          ap (λ l. take room out' ++ l) (put' ∙ ap (with_front ys) left)
          ∙ ap (λ l. take room l ++ with_front ys (drop room l)) put
          ∙ fronts-joined xs ys out room long
          ∙ sym (ap (λ l. with_front l out) (spans_from-append from done made));
    }

-- its lines have numbers
pub window-fits : (text pattern : List ℕ) (from to : ℕ) (rows : List (List (ℕ × ℕ))) → AreRows pattern (take (to - from) (drop from (line_texts text))) rows
    → line_count text < 2 ^ 64 → from < 2 ^ 64 → from + length rows < 2 ^ 64
window-fits text pattern from to rows are lines fits =
    let part = drop from (line_texts text) in
    omega (arith, AreRows-length pattern (take (to - from) part) rows are, length-take (to - from) part, length-drop from (line_texts text), lines-counted text, lines, fits)

-- a pattern is pending, unless that is refused
pub has-pending : (o : Option PendingPattern) → (o ≡ None → ⊥) → (p : PendingPattern) × (o ≡ Some p)
has-pending None some = absurd (some refl)
has-pending (Some p) some = (p, refl)

-- what is answered where nothing is shown
pub window-refused : (old new : CountingSession) (from to : ℕ) (out : List Span) (result : Result (Vec (List (ℕ × ℕ))) Fault) (fault : Fault) → result ≡ Err fault
    → (fault ≡ Nothing) ⊎ (fault ≡ Memory) → ((result ≡ Err Nothing) ↔ (pending_in old ≡ None)) → new.session ≡ old.session → (result ≡ Err Nothing → new.lines ≡ old.lines)
    → MakesAtMost (min (to - from) (lines_left (chosen_in old.session))) old.lines new.lines → new.arriving ≡ old.arriving → CopiesWindow old from to (rank_of fault) 0 out out new
window-refused old new from to out result fault is (inl e) nothing same unsearched rows arriving = record {
  shown = λ zero. absurd (omega (arith, zero, ap rank_of e));
  refused = λ not. (refl, refl);
  nothing = (λ one. nothing.0 (is ∙ ap Err e), λ none. ap rank_of e);
  status_is = inr (inl (ap rank_of e));
  same = same;
  unsearched = λ one. unsearched (is ∙ ap Err e);
  rows = rows;
  arriving = arriving;
}
window-refused old new from to out result fault is (inr e) nothing same unsearched rows arriving = record {
  shown = λ zero. absurd (omega (arith, zero, ap rank_of e));
  refused = λ not. (refl, refl);
  nothing = (λ one. absurd (omega (arith, one, ap rank_of e)), λ none. absurd (let told = nothing.1 none in let both = sym is ∙ told in cc));
  status_is = inr (inr (ap rank_of e));
  same = same;
  unsearched = λ one. absurd (omega (arith, one, ap rank_of e));
  rows = rows;
  arriving = arriving;
}

pub window-shown : (old new : CountingSession) (from to count : ℕ) (out out' : List Span) → (pending_in old ≡ None → ⊥) → new.session ≡ old.session
    → MakesAtMost (min (to - from) (lines_left (chosen_in old.session))) old.lines new.lines → new.arriving ≡ old.arriving → PutsWindow old from to count out out' → CopiesWindow old from to 0 count out out' new
window-shown old new from to count out out' some same rows arriving puts = record {
  shown = λ zero. puts;
  refused = λ not. absurd (not refl);
  nothing = (λ one. absurd (omega (arith, one)), λ none. absurd (some none));
  status_is = inl refl;
  same = same;
  unsearched = λ one. absurd (omega (arith, one));
  rows = rows;
  arriving = arriving;
}

-- the matches that are put are those of the lines
pub puts-window : (old : CountingSession) (pending made : List (List (ℕ × ℕ))) (from to count : ℕ) (out out' : List Span) → ArePendingRows (chosen_in old.session) pending
    → CompletesWindow (chosen_in old.session) from to made → (chosen_in old.session).state ≡ chosen_buffer old.session.state
    → PutsRows from (rows_between from to pending ++ made) count out out' → PutsWindow old from to count out out'
puts-window old pending made from to count out out' are completes state puts = go (pending_in old) refl
  where
    go : (o : Option PendingPattern) → pending_in old ≡ o
        → IfSome o (λ (p : PendingPattern). (rows : List (List (ℕ × ℕ))) × AreRows p.pattern (take (to - from) (drop from (line_texts (text_in old)))) rows
        × PutsRows from rows count out out')
    go None is = tt
    go (Some p) is = (
      rows_between from to pending ++ made,
      subst (λ b. AreRows p.pattern (take (to - from) (drop from (line_texts (current_text b)))) (rows_between from to pending ++ made)) state (completes p pending is are),
      puts,
    )

-- they have numbers
pub lines-fit : (old : CountingSession) (from to : ℕ) (pending made : List (List (ℕ × ℕ))) → ArePendingRows (chosen_in old.session) pending
    → CompletesWindow (chosen_in old.session) from to made → (pending_in old ≡ None → ⊥) → line_count (current_text (chosen_in old.session).state) < 2 ^ 64 → from < 2 ^ 64
    → from + length (rows_between from to pending ++ made) < 2 ^ 64
lines-fit old from to pending made are completes some lines fits =
    let p = has-pending (pending_in old) some in
    window-fits (current_text (chosen_in old.session).state) (p.0).pattern from to (rows_between from to pending ++ made) (completes p.0 pending p.1 are) lines fits
