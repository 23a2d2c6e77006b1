-- A match is what its halves give.
use Rattle.std.proofs.Common.{inl, inr, ◌≡◌, ℕ, ◌+◌, ◌<◌, ◌≤◌, ◌^◌, Bool, true, false, List, IsTrue, length, Option, Some, None, option_map, refl, sym, ap, ap₂, subst, ◌∙◌, arith}
use Rattle.std.specs.Option.{ForSome}
use Rattle.std.proofs.lemmas.Option.{same_Some}
use Rattle.unicode.specs.Perl.{is_word_char}
use Rattle.rx_util.specs.declared.search.Anchored.{Anchored}
use Rattle.rx_util.specs.declared.search.Anchored.TheVariants.{No, Yes}
use Rattle.rx_util.specs.Search.{Found, HalfFound}
use Rattle.rx_input.specs.Cursors.{IsSameContent}
use Rattle.rx_input.specs.Inputs.{Asked, InputState}
use Rattle.rx_input.specs.Searchers.{EndsInside}
use Rattle.rx_walks.specs.Backward.{ProgramFindsBack, back_from}
use Rattle.rx_walks.specs.BackLaws.{IsStartOf}
use Rattle.rx_walks.specs.Finds.{PatternMatch, Search, from_place_on}
use Rattle.rx_walks.specs.Iterating.{nothing, at_once, passed}
use Rattle.rx_walks.specs.Laws.{MayBeFound}
use Rattle.rx_walks.specs.Machines.{Outcome}
use Rattle.rx_walks.specs.ProgramFinds.{start_of, end_of}
use Rattle.rx_walks.specs.Programs.{Notes}
use Rattle.rx_walks.proofs.FindBackLaws.{finds_start_back}
use Rattle.rx_walks.proofs.InsideLaws.{finds_lie_inside}
use Rattle.rx_utf8.specs.Automata.{is_in}
use Rattle.rx_program.specs.Programs.{ByteProgram, character_program}
use Rattle.rx_steps.specs.Reversed.{IsHalfAnswerBack}
use Rattle.rx_steps.specs.Searching.{anchoring_of, search_of}
use Rattle.rx_dfa.specs.Searching.{IsHalfAnswer}
use Rattle.rx_chunk.specs.Engines.{Finds, IsFound, match_of}
use Rattle.rx_chunk.specs.Iterating.{IsFoundNext}
use Rattle.rx_chunk.proofs.IterLaws.{all_end, found_first}
use Rattle.rx_chunk.proofs.KindLaws.{InsideLaw}
use Rattle.rx_input.specs.Searchers.{IsEmptyAtLast}
use Rattle.rx_matches.specs.Halves.{IsTurnedBack, StartsAtSpan, whole_of}

-- finds are inside
pub inside_law : (p : ByteProgram) → InsideLaw (Finds p)
inside_law p s t finds = (finds_lie_inside is_in is_word_char (character_program p) s t finds).found

-- ---- the end of a match

abbrev half_of : Outcome Notes → HalfFound
half_of t = record { pattern = t.pattern; offset = t.end }

-- a find with this half
record HasHalf (p : ByteProgram) (s : Search) (half : HalfFound) : Type 0 where
  outcome : Outcome Notes
  finds : Finds p s (Some outcome)
  half_is : half ≡ half_of outcome
  lies : MayBeFound s (start_of outcome) (end_of outcome)

has_half : (p : ByteProgram) (s : Search) (half : HalfFound) → IsHalfAnswer p s (Some half) → HasHalf p s half
has_half p s half answer = by answer.found answer.finds answer.met_is
  where
    by : (out : Option (Outcome Notes)) → Finds p s out → Some half ≡ option_map half_of out → HasHalf p s half
    by None finds is = absurd (cc is)
    by (Some t) finds is = record {
      outcome = t;
      finds = finds;
      half_is = same_Some half (half_of t) is;
      lies = inside_law p s t finds;
    }

-- its end, inside
pub record HalfLies (s : Search) (half : HalfFound) : Type 0 where
  pub on : s.start ≤ half.offset
  pub in_span : half.offset ≤ s.end
  pub in_content : half.offset ≤ length s.content

pub half_lies : (p : ByteProgram) (s : Search) (half : HalfFound) → IsHalfAnswer p s (Some half) → HalfLies s half
half_lies p s half answer =
    let h = has_half p s half answer in
    let at = ap (λ (f : HalfFound). f.offset) h.half_is in
    record { on = omega (arith, at, h.lies.inside.2); in_span = omega (arith, at, h.lies.inside.3); in_content = omega (arith, at, h.lies.inside.4) }

-- ---- the start of a match

-- with the start of the find it is the whole match
whole_is : (p : ByteProgram) (s : Search) (half : HalfFound) (start : ℕ) (h : HasHalf p s half) → start_of h.outcome ≡ start → IsFound (Finds p) s (Some (whole_of half start))
whole_is p s half start h is = (
  Some h.outcome,
  h.finds,
  ap₂ (λ f k. Some (whole_of f k)) h.half_is (sym is),
)

starts_there : (s : Search) (start end : ℕ) → MayBeFound s start end → StartsAtSpan s end → start ≡ s.start
starts_there s start end lies (inl anchored) = lies.possible.1 anchored
starts_there s start end lies (inr here) = omega (arith, here, lies.ordered, lies.possible.0.2)

pub first_whole : (p : ByteProgram) (s : Search) (half : HalfFound) → IsHalfAnswer p s (Some half) → StartsAtSpan s half.offset → IsFound (Finds p) s (Some (whole_of half s.start))
first_whole p s half answer first =
    let h = has_half p s half answer in
    whole_is p s half s.start h (starts_there s (start_of h.outcome) (end_of h.outcome) h.lies (subst (λ (f : HalfFound). StartsAtSpan s f.offset) h.half_is first))

-- what is found backward from its end
back_found : (p : ByteProgram) (s : Search) (half : HalfFound) (h : HasHalf p s half) (out : Option PatternMatch) → ProgramFindsBack is_in is_word_char (character_program p) (back_from s half.offset) out → IsStartOf h.outcome out
back_found p s half h out finds =
    finds_start_back is_in is_word_char (character_program p) s h.outcome out h.finds
    (subst (λ (f : HalfFound). ProgramFindsBack is_in is_word_char (character_program p) (back_from s f.offset) out) h.half_is finds)

abbrev back_half : PatternMatch → HalfFound
back_half a = record { pattern = a.pattern; offset = a.start }

pub back_whole : (p : ByteProgram) (s : Search) (half back : HalfFound) → IsHalfAnswer p s (Some half) → IsHalfAnswerBack p (back_from s half.offset) (Some back) → IsFound (Finds p) s (Some (whole_of half back.offset))
back_whole p s half back answer answer_back =
    let h = has_half p s half answer in
    let at = back_found p s half h answer_back.found answer_back.finds in
    let same : back ≡ back_half at.found = same_Some back (back_half at.found) (answer_back.met_is ∙ ap (option_map (λ a. record { pattern = a.pattern; offset = a.start })) at.is) in
    whole_is p s half back.offset h (sym at.start ∙ sym (ap (λ (f : HalfFound). f.offset) same))

-- something is found backward
pub back_there : (p : ByteProgram) (s : Search) (half : HalfFound) → IsHalfAnswer p s (Some half) → IsHalfAnswerBack p (back_from s half.offset) None → ⊥
back_there p s half answer answer_back =
    let h = has_half p s half answer in
    let at = back_found p s half h answer_back.found answer_back.finds in
    cc (answer_back.met_is ∙ ap (option_map (λ a. record { pattern = a.pattern; offset = a.start })) at.is)

-- ---- the whole match

-- it doesn't end before it starts
pub whole_ordered : (p : ByteProgram) (s : Search) (found : Found) → IsFound (Finds p) s (Some found) → found.span.start ≤ found.span.end
whole_ordered p s found is = by is.0 is.1 is.2
  where
    by : (out : Option (Outcome Notes)) → Finds p s out → Some found ≡ option_map match_of out → found.span.start ≤ found.span.end
    by None finds is = absurd (cc is)
    by (Some t) finds is = subst (λ (a : Found). a.span.start ≤ a.span.end) (sym (same_Some found (match_of t) is)) (inside_law p s t finds).ordered

-- and ends in the span
pub whole_inside : (p : ByteProgram) (utf8_empty : Bool) (i : InputState) (found : Option Found) → length i.cursor.content < 2 ^ 63 → IsFound (Finds p) (search_of utf8_empty i) found → ForSome found (λ (m : Found). EndsInside i m.span.end)
whole_inside p utf8_empty i found bound is = λ a some.
    let ends = all_end (Finds p) None (search_of utf8_empty i) found (inside_law p) (found_first (Finds p) (search_of utf8_empty i) found is) a some in
    record { behind_start = ends.on; before_end = ends.in_span; fits = omega (arith, ends.in_content, bound) }

-- ---- the input

abbrev search_by : Bool → List ℕ → Asked → Search
search_by utf8_empty content asked = record {
  content = content;
  slice_start = asked.slice.start;
  slice_end = asked.slice.end;
  start = asked.span.start;
  end = asked.span.end;
  anchoring = anchoring_of asked.anchored;
  utf8_empty = utf8_empty;
}

-- an input with the same settings over the same haystack
pub same_search : (utf8_empty : Bool) (i j : InputState) → IsSameContent i.cursor j.cursor → j.asked ≡ i.asked → search_of utf8_empty j ≡ search_of utf8_empty i
same_search utf8_empty i j same asked = ap₂ (search_by utf8_empty) same.content asked

-- the backward search of the input
pub turned_search : (utf8_empty : Bool) (i j : InputState) (end : ℕ) → i.asked.anchored ≡ No → IsTurnedBack i j end → search_of utf8_empty j ≡ back_from (search_of utf8_empty i) end
turned_search utf8_empty i j end none turned =
    ap₂ (search_by utf8_empty) turned.same.content turned.asked
    ∙ sym (ap (λ (m : Anchored). back_from (search_by utf8_empty i.cursor.content (record i.asked { anchored = m })) end) none)

-- what is found backward from there
pub back_answer : (p : ByteProgram) (utf8_empty : Bool) (old i : InputState) (half : HalfFound) (end : ℕ) (out : Option HalfFound) → IsSameContent old.cursor i.cursor → i.asked ≡ old.asked → end ≡ half.offset
    → IsHalfAnswerBack p (back_from (search_of utf8_empty i) end) out → IsHalfAnswerBack p (back_from (search_of utf8_empty old) half.offset) out
back_answer p utf8_empty old i half end out same asked at answer =
    subst (λ x. IsHalfAnswerBack p x out) (ap₂ (λ x k. back_from x k) (same_search utf8_empty old i same asked) at) answer

-- and the settings from before
pub asked_again : (before turned after : Asked) (end last : ℕ) → before.anchored ≡ No → turned ≡ record before { span = record before.span { end = end }; anchored = Yes } → last ≡ before.span.end
    → after ≡ record turned { span = record turned.span { end = last }; anchored = No } → after ≡ before
asked_again before turned after end last none is last_is then =
    then
    ∙ ap (λ (a : Asked). record a { span = record a.span { end = last }; anchored = No }) is
    ∙ ap₂ (λ k m. record before { span = record before.span { end = k }; anchored = m }) last_is (sym none)

pub no_truth : (b : Bool) → IsTrue b → b ≡ false → ⊥
no_truth b is e = let told : b ≡ true = is in absurd (cc (sym told ∙ e))

-- ---- the next match

-- nothing is found
pub none_next : (p : ByteProgram) (s : Search) (last : Option ℕ) → IsFound (Finds p) s None → IsFoundNext (Finds p) s last None
none_next p s last is = by is.0 is.1 is.2
  where
    by : (out : Option (Outcome Notes)) → Finds p s out → None ≡ option_map match_of out → IsFoundNext (Finds p) s last None
    by None finds is = (None, nothing finds, refl)
    by (Some t) finds is = absurd (cc is)

-- a match that isn't empty at the end of the last one
pub some_next : (p : ByteProgram) (s : Search) (last : Option ℕ) (found : Found) → IsFound (Finds p) s (Some found) → (IsEmptyAtLast last found → ⊥) → IsFoundNext (Finds p) s last (Some found)
some_next p s last found is apart = by is.0 is.1 is.2
  where
    by : (out : Option (Outcome Notes)) → Finds p s out → Some found ≡ option_map match_of out → IsFoundNext (Finds p) s last (Some found)
    by None finds is = absurd (cc is)
    by (Some t) finds is = (Some t, at_once finds (λ empty. subst (λ (a : Found). IsEmptyAtLast last a → ⊥) (same_Some found (match_of t) is) apart empty), is)

-- one that is skipped
pub further_next : (p : ByteProgram) (s : Search) (last : Option ℕ) (found : Found) (next : Option Found) → IsFound (Finds p) s (Some found) → IsEmptyAtLast last found → IsFound (Finds p) (from_place_on s (s.start + 1)) next → IsFoundNext (Finds p) s last next
further_next p s last found next is empty further = by is.0 is.1 is.2
  where
    by : (out : Option (Outcome Notes)) → Finds p s out → Some found ≡ option_map match_of out → IsFoundNext (Finds p) s last next
    by None finds is = absurd (cc is)
    by (Some t) finds is = (further.0, passed finds (subst (λ (a : Found). IsEmptyAtLast last a) (same_Some found (match_of t) is) empty) further.1, further.2)
