-- The start and the end of a search.
use Rattle.std.proofs.Common.{inl, inr, ◌≡◌, ◌⊎◌, ℕ, ◌+◌, ◌-◌, ◌≤◌, ◌<◌, Bool, true, false, All, IsTrue, List, [], length, max, Option, Some, None, option_map, refl, sym, ap₂, subst, arith}
use Rattle.std.specs.Option.{ForSome}
use Rattle.unicode.specs.Perl.{is_word_char}
use Rattle.rx_utf8.specs.Automata.{is_in}
use Rattle.rx_walks.specs.Machines.{Outcome}
use Rattle.rx_walks.specs.Programs.{Notes}
use Rattle.std.proofs.lemmas.List.Elements.{All-nil}
use Rattle.rx_walks.specs.Finds.{Search, up_to_place, IsInside, is_anchored}
use Rattle.rx_walks.specs.ProgramFinds.{ProgramFinds, start_node, lowest, highest}
use Rattle.rx_walks.specs.Laws.{MayBegin}
use Rattle.rx_input.specs.Inputs.{InputState, Asked}
use Rattle.rx_program.specs.Programs.{ByteProgram, IsByteProgram, character_program}
use Rattle.rx_steps.specs.Threads.{Slots, Thread, IsThreadOf, no_slots}
use Rattle.rx_steps.specs.Lists.{met_at}
use Rattle.rx_steps.specs.Searching.{search_of, anchoring_of, IsAnswer, IsAnswerAt, IsFirstEnd}
use Rattle.rx_steps.specs.Standing.{IsReached, StopsAt}
use Rattle.rx_steps.specs.Coming.{course_of, HasSlots, machine_in, HasCome, IsUnderWay, IsOver, IsOverAt, HasMetNone, IsFirstMet, IsStopped}
use Rattle.rx_steps.proofs.ComeLaws.{begun, skipped_all, is_over}
use Rattle.rx_steps.proofs.WayLaws.{no_pattern}
use Rattle.rx_steps.proofs.AnswerLaws.{KeepingLaw, none_inside, over_is_answer}
use Rattle.rx_steps.proofs.ByteLaws.{below_or_not}

abbrev search_by : Bool → List ℕ → Asked → Search
search_by utf8_empty content asked = record {
  content = content;
  slice_start = asked.slice.start;
  slice_end = asked.slice.end;
  start = asked.span.start;
  end = asked.span.end;
  anchoring = anchoring_of asked.anchored;
  utf8_empty = utf8_empty;
}

-- a moved input asks for the same search
pub same_search : (utf8_empty : Bool) (i j : InputState) → i.cursor.content ≡ j.cursor.content → i.asked ≡ j.asked → search_of utf8_empty i ≡ search_of utf8_empty j
same_search utf8_empty i j content asked = ap₂ (search_by utf8_empty) content asked

pub way_begun : (p : ByteProgram) (s : Search) (q i : ℕ) (live : List Thread) (slots : Slots) → i ≡ max s.slice_start s.start → live ≡ [] → slots ≡ no_slots (length slots)
    → IsUnderWay (course_of p s q) i live None slots
way_begun p s q i live slots first none empty =
    let m = machine_in p s in
    let fresh = no_slots (length slots) in
    let k = i - s.start in
    let whole : s.start + k ≡ i = omega (arith, first) in
    let come : HasCome m s q fresh (s.start + k) [] None =
    skipped_all m s q fresh k s.start (λ j from below begins. omega (arith, first, from, below, begins.0.0.0)) (begun m s q fresh) in
    record {
      end = 0;
      come = subst (λ xs. HasCome m s q fresh i xs None) (sym none) (subst (λ j. HasCome m s q fresh j [] None) whole come);
      none_met = λ e. empty;
      nodes = subst (λ xs. All (IsThreadOf p.states) xs) (sym none) (All-nil (IsThreadOf p.states));
      slot_lens = subst (λ xs. All (HasSlots (length slots)) xs) (sym none) (All-nil (HasSlots (length slots)));
      past_end = λ past. none;
      reached = subst (λ xs. All (IsReached m s q i i) xs) (sym none) (All-nil (IsReached m s q i i));
    }

over_by : (p : ByteProgram) (s : Search) (q i : ℕ) (live : List Thread) (pattern : Option ℕ) (slots : Slots) → live ≡ [] → (pattern ≡ None → (j : ℕ) → i ≤ j → MayBegin s j → ⊥)
    → IsUnderWay (course_of p s q) i live pattern slots → IsOver (course_of p s q) pattern slots
over_by p s q i live pattern slots none never way =
    let m = machine_in p s in
    let fresh = no_slots (length slots) in
    record {
      end = way.end;
      searches = is_over m s q fresh i (met_at way.end pattern slots) (λ unmet. never (no_pattern way.end pattern slots unmet))
          (subst (λ xs. HasCome m s q fresh i xs (met_at way.end pattern slots)) none way.come);
      none_met = way.none_met;
    }

-- there is no thread, and none starts after the search's start, or a match end was met
pub way_over : (p : ByteProgram) (s : Search) (q i : ℕ) (live : List Thread) (pattern : Option ℕ) (slots : Slots) → IsInside s i → live ≡ [] → (pattern ≡ None → IsTrue (is_anchored s.anchoring))
    → IsUnderWay (course_of p s q) (i + 1) live pattern slots → IsOver (course_of p s q) pattern slots
way_over p s q i live pattern slots inside none anchored way =
    over_by p s q (i + 1) live pattern slots none (λ unmet j from begins. omega (arith, from, begins.0.1 (anchored unmet), inside.2)) way

-- after the highest offset
pub way_ended : (p : ByteProgram) (s : Search) (q i : ℕ) (live : List Thread) (pattern : Option ℕ) (slots : Slots) → highest s < i + 1 → IsUnderWay (course_of p s q) (i + 1) live pattern slots → IsOver (course_of p s q) pattern slots
way_ended p s q i live pattern slots past way =
    over_by p s q (i + 1) live pattern slots (way.past_end past)
    (λ unmet j from begins. let inside = begins.0.0 in omega (arith, past, from, inside.1, inside.3, inside.4)) way

-- the result of a search that is over
pub over_answers : (p : ByteProgram) (s other : Search) (q : ℕ) (pattern : Option ℕ) (slots : Slots) → other ≡ s → IsByteProgram p → KeepingLaw → start_node (character_program p) s.anchoring ≡ Some q
    → IsOver (course_of p other q) pattern slots → IsAnswer p s pattern slots
over_answers p s other q pattern slots same reads law starts way =
    let is : IsOver (course_of p s q) pattern slots = subst (λ x. IsOver (course_of p x q) pattern slots) same way in
    over_is_answer p s q is.end pattern slots reads law starts is.searches is.none_met

-- ---- at the first match end

-- without a pattern, nothing is found
nothing_found : (p : ByteProgram) (s : Search) (slots : Slots) → IsAnswer p s None slots → ProgramFinds is_in is_word_char (character_program p) s None
nothing_found p s slots answer = by answer.found answer.finds answer.pattern_is
  where
    by : (found : Option (Outcome Notes)) → ProgramFinds is_in is_word_char (character_program p) s found → None ≡ option_map (λ t. t.pattern) found → ProgramFinds is_in is_word_char (character_program p) s None
    by None finds e = finds
    by (Some t) finds e = absurd (cc e)

-- with one, something is
something_found : (p : ByteProgram) (s : Search) (k : ℕ) (slots : Slots) → IsAnswer p s (Some k) slots → (t : Outcome Notes) × ProgramFinds is_in is_word_char (character_program p) s (Some t)
something_found p s k slots answer = by answer.found answer.finds answer.pattern_is
  where
    by : (found : Option (Outcome Notes)) → ProgramFinds is_in is_word_char (character_program p) s found → Some k ≡ option_map (λ t. t.pattern) found → (t : Outcome Notes) × ProgramFinds is_in is_word_char (character_program p) s (Some t)
    by None finds e = absurd (cc e)
    by (Some t) finds e = (t, finds)

-- no result, whether any match may be reported or not
pub none_at : (earliest : Bool) (p : ByteProgram) (s : Search) (end : ℕ) (slots : Slots) → IsAnswer p s None slots → IsAnswerAt earliest p s end None slots
none_at false p s end slots answer = answer
none_at true p s end slots answer = answer

module _ (p : ByteProgram) (s : Search) (q : ℕ) (reads : IsByteProgram p) (law : KeepingLaw) (starts : start_node (character_program p) s.anchoring ≡ Some q) where
  part_answers : (i : ℕ) (pattern : Option ℕ) (slots : Slots) → IsOver (course_of p (up_to_place s i) q) pattern slots → IsAnswer p (up_to_place s i) pattern slots
  part_answers i pattern slots way = over_answers p (up_to_place s i) (up_to_place s i) q pattern slots refl reads law starts way

  nothing_before : (first i : ℕ) → first ≡ lowest s → HasMetNone (course_of p s q) first i → (j : ℕ) → j < i → ProgramFinds is_in is_word_char (character_program p) (up_to_place s j) None
  nothing_before first i is before j to = elim (below_or_not j first) [
    | inl outside ↦ nothing_found p (up_to_place s j) [] (none_inside p (up_to_place s j) q [] reads law starts (λ k inside. omega (arith, is, outside, inside.0, inside.2, inside.3)) refl)
    | inr from ↦ let there = before j from to in nothing_found p (up_to_place s j) there.0 (part_answers j None there.0 there.1)
  ]

  first_end : (first end : ℕ) → first ≡ lowest s → IsFirstMet (course_of p s q) first end → IsFirstEnd p s end
  first_end first end is at =
      let some = something_found p (up_to_place s end) at.pattern at.slots (part_answers end (Some at.pattern) at.slots at.met) in
      record { in_span = omega (arith, at.inside); found = some.0; finds = some.1; none_before = nothing_before first end is at.none_before }

  -- the result of a search that stops at an offset
  pub over_at_answers : (earliest : Bool) (first i : ℕ) (pattern : Option ℕ) (slots : Slots) → first ≡ lowest s → IsOverAt earliest (course_of p s q) first i pattern slots → IsAnswerAt earliest p s i pattern slots
  over_at_answers false first i pattern slots is way = over_answers p s s q pattern slots refl reads law starts way
  over_at_answers true first i None slots is way = over_answers p s s q None slots refl reads law starts way
  over_at_answers true first i (Some k) slots is (le, way, before) =
      (first_end first i is (record { inside = le; pattern = k; slots = slots; met = way; none_before = before }), part_answers i (Some k) slots way)

  -- and where it stops
  pub stops_there : (earliest : Bool) (first i : ℕ) (pattern : Option ℕ) → first ≡ lowest s → (pattern ≡ None) ⊎ IsStopped earliest (course_of p s q) first i → ForSome pattern (λ _. StopsAt earliest p s i)
  stops_there earliest first i None is one = λ k e. absurd (cc e)
  stops_there earliest first i (Some k) is (inl none) = absurd (cc none)
  stops_there earliest first i (Some k) is (inr at) = λ j e. record { first = at.end; first_end = first_end first at.end is at.first_met; stands = at.stands; at_once = at.at_once }
