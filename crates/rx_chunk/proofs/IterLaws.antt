-- Matches in sequence.
use Rattle.std.proofs.Common.{◌≡◌, ℕ, ◌+◌, ◌-◌, ◌≤◌, ◌<◌, Bool, true, false, List, length, Option, Some, None, option_map, Result, Ok, refl, sym, ap, ap₂, subst, ◌∙◌, arith}
use Rattle.std.specs.Prelude.{◌==◌}
use Rattle.std.proofs.lemmas.Option.{same_Some}
use Rattle.std.proofs.lemmas.Bool.{eqb-true}
use Rattle.std.specs.Iterator.{size}
use Rattle.rx_util.specs.Search.{Found}
use Rattle.rx_input.specs.Cursors.{IsSameContent}
use Rattle.rx_input.specs.Inputs.{InputState, Asked, HasSpan}
use Rattle.rx_walks.specs.Machines.{Outcome}
use Rattle.rx_walks.specs.Programs.{Notes}
use Rattle.rx_walks.specs.Finds.{Search, from_place_on}
use Rattle.rx_walks.specs.ProgramFinds.{end_of}
use Rattle.rx_walks.specs.Iterating.{Finding, FindsNext, nothing, at_once, passed, GivesFound}
use Rattle.std.specs.Option.{ForSome}
use Rattle.std.specs.Prelude.{IfOk}
use Rattle.rx_chunk.specs.Engines.{IsFound, match_of}
use Rattle.rx_chunk.proofs.EngineLaws.{if_ok}
use Rattle.rx_chunk.proofs.KindLaws.{InsideLaw}
use Rattle.rx_steps.specs.Searching.{search_of, anchoring_of}
use Rattle.rx_input.specs.Searchers.{items_at_most}
use Rattle.rx_chunk.specs.Iterating.{MatchesLeft, ComesNext, IsFoundNext, StartsFrom, EndsAhead, FewerAreLeft, GivesNext, is_last_end, left_behind, matches_left}

-- ---- what is found next

-- a match may start in the span and in the haystack
pub record MayStart (s : Search) : Type 0 where
  pub in_span : s.start ≤ s.end
  pub in_content : s.start ≤ length s.content

-- ---- where it ends

stood : (last : Option ℕ) (start : ℕ) → is_last_end last start ≡ true → last ≡ Some start
stood None start told = absurd (cc told)
stood (Some end) start told = ap (λ k. Some k) (eqb-true end start told)

next_ends : {out : Option (Outcome Notes)} (finding : Finding) (s : Search) (last : Option ℕ) (t : Outcome Notes) → InsideLaw finding → FindsNext finding s last out → out ≡ Some t → EndsAhead last s (end_of t)
next_ends finding s last t law (nothing finds) e = absurd (cc e)
next_ends finding s last t law (at_once {t = a} finds not) e =
    let at = law s a finds in
    let apart : is_last_end last s.start ≡ true → end_of a ≡ s.start → ⊥ =
    λ told end. not (omega (arith, end, at.ordered, at.possible.0.2), stood last s.start told ∙ ap (λ k. Some k) (sym end)) in
    subst (λ x. EndsAhead last s (end_of x)) (same_Some a t e) (record {
      on = at.inside.2;
      further = λ told. let not_here = apart told in omega (arith, at.inside.2, not_here);
      in_span = at.inside.3;
      in_content = at.inside.4;
    })
next_ends finding s last t law (passed {out = out} finds empty further) e =
    let at = law (from_place_on s (s.start + 1)) t (subst (λ o. finding (from_place_on s (s.start + 1)) o) e further) in
    record { on = omega (arith, at.inside.2); further = λ told. omega (arith, at.inside.2); in_span = at.inside.3; in_content = at.inside.4 }

ends_by : (finding : Finding) (last : Option ℕ) (s : Search) (a : Found) (out : Option (Outcome Notes)) → InsideLaw finding → ComesNext finding s last out → Some a ≡ option_map match_of out → EndsAhead last s a.span.end
ends_by finding last s a None law finds is = absurd (cc is)
ends_by finding last s a (Some t) law finds is =
    subst (λ x. EndsAhead last s x.span.end) (sym (same_Some a (match_of t) is)) (next_ends finding s last t law finds refl)

pub found_ends : (finding : Finding) (last : Option ℕ) (s : Search) (a : Found) → InsideLaw finding → IsFoundNext finding s last (Some a) → EndsAhead last s a.span.end
found_ends finding last s a law is = ends_by finding last s a is.0 law is.1 is.2

-- without a match before, what is found is the next match
first_is : (finding : Finding) (s : Search) (out : Option (Outcome Notes)) → finding s out → ComesNext finding s None out
first_is finding s None finds = nothing finds
first_is finding s (Some t) finds = at_once finds (λ empty. absurd (cc empty.1))

pub found_first : (finding : Finding) (s : Search) (found : Option Found) → IsFound finding s found → IsFoundNext finding s None found
found_first finding s found is = (is.0, first_is finding s is.0 is.1, is.2)

-- what comes next ends ahead
pub all_end : (finding : Finding) (last : Option ℕ) (s : Search) (found : Option Found) → InsideLaw finding → IsFoundNext finding s last found → ForSome found (λ a. EndsAhead last s a.span.end)
all_end finding last s found law is = λ a some. found_ends finding last s a law (subst (λ o. IsFoundNext finding s last o) some is)

pub ends_ahead : {E : Type 0} (finding : Finding) (last : Option ℕ) (s : Search) (result : Result (Option Found) E) → InsideLaw finding → IfOk result (λ found. IsFoundNext finding s last found)
    → IfOk result (λ found. ForSome found (λ a. EndsAhead last s a.span.end))
ends_ahead finding last s result law told = if_ok result (λ found is. all_end finding last s found law is) told

-- ---- a step of the iterator

abbrev search_by : Bool → List ℕ → Asked → Search
search_by utf8_empty content asked = record {
  content = content;
  slice_start = asked.slice.start;
  slice_end = asked.slice.end;
  start = asked.span.start;
  end = asked.span.end;
  anchoring = anchoring_of asked.anchored;
  utf8_empty = utf8_empty;
}

-- an input with the same settings from another offset on
pub moved_search : (utf8_empty : Bool) (i j : InputState) (start : ℕ) → StartsFrom i j start → search_of utf8_empty j ≡ from_place_on (search_of utf8_empty i) start
moved_search utf8_empty i j start starts = ap₂ (search_by utf8_empty) starts.same.content starts.asked

-- with the same settings, the span starts where it did
pub same_start : (i j : InputState) → IsSameContent i.cursor j.cursor → j.asked ≡ i.asked → (start : ℕ) × StartsFrom i j start
same_start i j same asked = (i.asked.span.start, record { same = same; asked = asked })

-- the search from one offset on, and then from another, is the one from there on
pub moved_on : (i j k : InputState) (start end : ℕ) → StartsFrom i j start → StartsFrom j k end → StartsFrom i k end
moved_on i j k start end one other = record {
  same = record { content = other.same.content ∙ one.same.content; is_sized = other.same.is_sized ∙ one.same.is_sized };
  asked = other.asked ∙ ap (λ (asked : Asked). record asked { span = record asked.span { start = end } }) one.asked;
}

-- the start of the span was set
pub set_to : (i j : InputState) (start : ℕ) → HasSpan i j (record i.asked.span { start = start }) → StartsFrom i j start
set_to i j start has = record { same = has.same; asked = has.asked_is }

pub left_there : (m : MatchesLeft) (s : Search) (end last : ℕ) → s ≡ from_place_on m.search end → last ≡ end → m.is_over ≡ false → record { search = s; last_end = Some last; is_over = m.is_over } ≡ left_behind m end
left_there m s end last search is goes_on = grind (arith, search, is, goes_on)

-- a match comes
gives_by : (finding : Finding) (m : MatchesLeft) (a : Found) (out : Option (Outcome Notes)) → m.is_over ≡ false → ComesNext finding m.search m.last_end out → Some a ≡ option_map match_of out
    → GivesFound finding match_of m a (left_behind m a.span.end)
gives_by finding m a None goes_on finds is = absurd (cc is)
gives_by finding m a (Some t) goes_on finds is =
    let same : a ≡ match_of t = same_Some a (match_of t) is in
    record {
      goes_on = goes_on;
      found = t;
      next = finds;
      item_is = same;
      left_is = ap (λ (x : Found). left_behind m x.span.end) same;
    }

pub gives_match : (finding : Finding) (m n : MatchesLeft) (a : Found) → m.is_over ≡ false → IsFoundNext finding m.search m.last_end (Some a) → n ≡ left_behind m a.span.end → GivesNext finding match_of m (Some (Ok a)) n
gives_match finding m n a goes_on is left = record { gives = subst (λ x. GivesFound finding match_of m a x) (sym left) (gives_by finding m a is.0 goes_on is.1 is.2); refused = tt }

-- none comes
none_by : (finding : Finding) (m : MatchesLeft) (out : Option (Outcome Notes)) → ComesNext finding m.search m.last_end out → None ≡ option_map match_of out → ComesNext finding m.search m.last_end None
none_by finding m None finds is = finds
none_by finding m (Some t) finds is = absurd (cc is)

pub gives_none : {A : Type 0} (finding : Finding) (item_of : Outcome Notes → A) (m n : MatchesLeft) → (m.is_over ≡ false → IsFoundNext finding m.search m.last_end None) → n.is_over ≡ true → GivesNext finding item_of m None n
gives_none finding item_of m n is over = record { gives = (λ goes_on. none_by finding m (is goes_on).0 (is goes_on).1 (is goes_on).2, over); refused = tt }

-- fewer are left then
same_place : (k : ℕ) → (k == k) ≡ true
same_place k = grind (arith)

fewer_by : (is_over stands : Bool) (s : Search) (end : ℕ) → is_over ≡ false → s.start ≤ end → (stands ≡ true → s.start < end) → end ≤ length s.content
    → items_at_most false true (length s.content - end) < items_at_most is_over stands (length s.content - s.start)
fewer_by true stands s end e on further fits = absurd (cc e)
fewer_by false true s end e on further fits = let behind = further refl in omega (arith, behind, fits)
fewer_by false false s end e on further fits = omega (arith, on)

pub fewer_left : (m n : MatchesLeft) (end : ℕ) → m.is_over ≡ false → EndsAhead m.last_end m.search end → n ≡ left_behind m end → size (matches_left n) < size (matches_left m)
fewer_left m n end goes_on ends left =
    subst (λ x. size (matches_left x) < size (matches_left m)) (sym left)
    (subst (λ b. items_at_most false b (length m.search.content - end) < size (matches_left m)) (sym (same_place end))
    (fewer_by m.is_over (is_last_end m.last_end m.search.start) m.search end goes_on ends.on ends.further ends.in_content))

-- some are left unless it has ended
some_by : (is_over stands : Bool) (ahead : ℕ) → is_over ≡ false → 0 < items_at_most is_over stands ahead
some_by true stands ahead e = absurd (cc e)
some_by false true ahead e = omega arith
some_by false false ahead e = omega arith

pub none_left : (m n : MatchesLeft) → m.is_over ≡ false → n.is_over ≡ true → size (matches_left n) < size (matches_left m)
none_left m n goes_on over =
    subst (λ b. items_at_most b (is_last_end n.last_end n.search.start) (length n.search.content - n.search.start) < size (matches_left m)) (sym over)
    (some_by m.is_over (is_last_end m.last_end m.search.start) (length m.search.content - m.search.start) goes_on)

pub fewer_are_left : FewerAreLeft
fewer_are_left = record {
  behind = λ m end goes_on ends. fewer_left m (left_behind m end) end goes_on ends refl;
  over = none_left;
}
