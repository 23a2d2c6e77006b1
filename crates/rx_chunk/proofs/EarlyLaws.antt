-- The result of a search that may stop at the first match end.
use Rattle.std.proofs.Common.{◌≡◌, ℕ, ◌*◌, ◌≤◌, Bool, true, false, length, Option, Some, None, is_some, option_map, refl, sym, ap, subst, ◌∙◌, arith}
use Rattle.std.specs.Option.{ForSome}
use Rattle.std.proofs.lemmas.Option.{none-some}
use Rattle.unicode.specs.Perl.{is_word_char}
use Rattle.rx_utf8.specs.Automata.{is_in}
use Rattle.rx_util.specs.declared.search.Span.{Span}
use Rattle.rx_util.specs.Search.{Found}
use Rattle.rx_util.specs.Captured.{Captured, group_span, match_found}
use Rattle.rx_walks.specs.Machines.{Outcome}
use Rattle.rx_walks.specs.Programs.{Notes}
use Rattle.rx_walks.specs.Finds.{Search, up_to_place}
use Rattle.rx_walks.specs.Iterating.{Finding}
use Rattle.rx_walks.proofs.CutLaws.{cut_spans_tell}
use Rattle.rx_program.specs.Programs.{ByteProgram, character_program}
use Rattle.rx_steps.specs.Threads.{Slots}
use Rattle.rx_steps.specs.Searching.{IsFirstEnd}
use Rattle.rx_steps.specs.Searching as steps
use Rattle.rx_chunk.specs.Engines.{Engine, EngineFinds, Finds, IsAnswer, IsAnswerAt, match_of, TellsWhether, IsFound, TellsMatch, TellsSlots, IsFoundAt, whole_span}
use Rattle.rx_chunk.specs.Iterating.{EndsAhead, captured_by}
use Rattle.rx_chunk.proofs.EngineLaws.{tells_whether, none_found, none_slots}
use Rattle.rx_chunk.proofs.AnswerLaws.{as_answer}
use Rattle.rx_chunk.proofs.KindLaws.{cut_of, inside_of, whether_of}
use Rattle.rx_chunk.proofs.FoundLaws.{NotesPlaces, is_noted, noted_in_order, match_with, noted_found, AreNoted, are_noted}
use Rattle.rx_chunk.proofs.IterLaws.{all_end, found_first}

some_match : (out : Option (Outcome Notes)) → is_some (option_map match_of out) ≡ is_some out
some_match None = refl
some_match (Some t) = refl

whether_found : (finding : Finding) (s : Search) (found : Option Found) → IsFound finding s found → TellsWhether finding s (is_some found)
whether_found finding s found (out, finds, is) =
    let same : is_some found ≡ is_some out = ap is_some is ∙ some_match out in
    (out, finds, (λ e. sym same ∙ e, λ e. same ∙ e))

-- there is a match if there is one in a part
whether_in_part : (e : Engine) (s : Search) (i : ℕ) (t : Outcome Notes) (is_there : Bool) → i ≤ s.end → Finds e.program (up_to_place s i) (Some t) → is_there ≡ true → TellsWhether (EngineFinds e) s is_there
whether_in_part e s i t is_there within finds there =
    let whole = cut_spans_tell is_in is_word_char (character_program e.program) s i t within finds in
    whether_of e s is_there (Some whole.0, whole.1, (λ e. refl, λ e. there))

pub tells_match : (earliest : Bool) (e : Engine) (s : Search) (i : ℕ) (found : Option Found) → IsFoundAt earliest e s i found → TellsMatch earliest (EngineFinds e) s found
tells_match false e s i found is = record { whether = whether_found (EngineFinds e) s found is; exact = λ _. is }
tells_match true e s i None is = record { whether = whether_found (EngineFinds e) s None is; exact = λ never. absurd (cc never) }
tells_match true e s i (Some m) is = record { whether = whether_in_part e s i is.0.found true is.0.in_span is.0.finds refl; exact = λ never. absurd (cc never) }

pub tells_slots : (earliest : Bool) (e : Engine) (s : Search) (i : ℕ) (pattern : Option ℕ) (slots : Slots) → IsAnswerAt earliest e s i pattern slots → TellsSlots earliest (EngineFinds e) s pattern slots
tells_slots false e s i pattern slots is = record { whether = tells_whether (is_some pattern) refl is; exact = λ _. is; none = none_slots (EngineFinds e) s pattern slots is }
tells_slots true e s i None slots is = record { whether = tells_whether false refl is; exact = λ never. absurd (cc never); none = none_slots (EngineFinds e) s None slots is }
tells_slots true e s i (Some k) slots is = record { whether = whether_in_part e s i is.0.found true is.0.in_span is.0.finds refl; exact = λ never. absurd (cc never); none = λ never. absurd (cc never) }

-- ---- a search for the leftmost match

-- its result if it stops at the first match end
pub whether_first : (p : ByteProgram) (s : Search) (i : ℕ) (pattern : Option ℕ) (slots : Slots) → steps.IsAnswerAt true p s i pattern slots → TellsWhether (Finds p) s (is_some pattern)
whether_first p s i None slots is = tells_whether false refl (as_answer is)
whether_first p s i (Some k) slots is =
    let whole = cut_spans_tell is_in is_word_char (character_program p) s i is.0.found is.0.in_span is.0.finds in
    (Some whole.0, whole.1, (λ e. refl, λ e. refl))

pub first_end : (p : ByteProgram) (s : Search) (i : ℕ) (pattern : Option ℕ) (slots : Slots) → is_some pattern ≡ true → steps.IsAnswerAt true p s i pattern slots → IsFirstEnd p s i
first_end p s i None slots some is = absurd (cc some)
first_end p s i (Some k) slots some is = is.0

-- ---- a result is one of all of the span or of a part of it

pub record IsAnswerInPart (finding : Finding) (s : Search) (pattern : Option ℕ) (slots : Slots) : Type 0 where
  pub end : ℕ
  pub within : end ≤ s.end
  pub answer : IsAnswer finding (up_to_place s end) pattern slots

pub in_part : (earliest : Bool) (e : Engine) (s : Search) (i : ℕ) (pattern : Option ℕ) (slots : Slots) → IsAnswerAt earliest e s i pattern slots → IsAnswerInPart (EngineFinds e) s pattern slots
in_part false e s i pattern slots is = record { end = s.end; within = omega arith; answer = is }
in_part true e s i None slots is = record { end = s.end; within = omega arith; answer = is }
in_part true e s i (Some k) slots is = record { end = i; within = is.0.in_span; answer = is.1 }

-- ---- the match from its offsets

pub nothing_at : (earliest : Bool) (e : Engine) (s : Search) (i : ℕ) (pattern : Option ℕ) (slots : Slots) → pattern ≡ None → IsAnswerAt earliest e s i pattern slots → IsFoundAt earliest e s i None
nothing_at false e s i pattern slots none is = none_found is none
nothing_at true e s i None slots none is = none_found is refl
nothing_at true e s i (Some k) slots none is = absurd (cc none)

pub match_at : (earliest : Bool) (e : Engine) (s : Search) (i : ℕ) (pattern : Option ℕ) (k : ℕ) (slots : Slots) (result : Option Found) → NotesPlaces e → 2 * length e.groups ≤ length slots → pattern ≡ Some k
    → result ≡ option_map (match_with k) (whole_span k slots) → IsAnswerAt earliest e s i pattern slots → IsFoundAt earliest e s i result
match_at false e s i pattern k slots result notes room some told is = noted_found (EngineFinds e) s k slots result (is_noted e s pattern slots k notes room is some) told
match_at true e s i None k slots result notes room some told is = absurd (cc some)
match_at true e s i (Some j) k slots None notes room some told is =
    let noted = is_noted e (up_to_place s i) (Some j) slots k notes room is.1 some in
    absurd (cc (told ∙ ap (λ o. option_map (match_with k) o) noted.span))
match_at true e s i (Some j) k slots (Some m) notes room some told is =
    (is.0, noted_found (EngineFinds e) (up_to_place s i) k slots (Some m) (is_noted e (up_to_place s i) (Some j) slots k notes room is.1 some) told)

-- its offsets are in order
pub match_in_order : (earliest : Bool) (e : Engine) (s : Search) (i : ℕ) (pattern : Option ℕ) (k : ℕ) (slots : Slots) → NotesPlaces e → 2 * length e.groups ≤ length slots → pattern ≡ Some k
    → IsAnswerAt earliest e s i pattern slots → ForSome (whole_span k slots) (λ (x : Span). x.start ≤ x.end)
match_in_order earliest e s i pattern k slots notes room some is =
    let part = in_part earliest e s i pattern slots is in
    noted_in_order (EngineFinds e) (up_to_place s part.end) k slots (inside_of e) (is_noted e (up_to_place s part.end) pattern slots k notes room part.answer some)

-- ---- the same in captures

whether_noted : (e : Engine) (s : Search) (i k : ℕ) (caps : Captured) → i ≤ s.end → caps.pattern ≡ Some k → AreNoted (EngineFinds e) (up_to_place s i) caps → TellsWhether (EngineFinds e) s (is_some (match_found caps))
whether_noted e s i k caps within some are = by are.out are.finds are.noted are.match_is
  where
    by : (out : Option (Outcome Notes)) → EngineFinds e (up_to_place s i) out → caps ≡ captured_by caps.groups (length caps.slots) out → match_found caps ≡ option_map match_of out → TellsWhether (EngineFinds e) s (is_some (match_found caps))
    by None finds noted is = absurd (none-some k (sym (ap (λ c. c.pattern) noted) ∙ some))
    by (Some t) finds noted is =
        let there : is_some (match_found caps) ≡ true = ap is_some is in
        let whole = cut_of e s i t within finds in
        (Some whole.0, whole.1, (λ e. refl, λ e. there))

ends_in_span : (e : Engine) (s : Search) (i : ℕ) (found : Option Found) → i ≤ s.end → IsFound (EngineFinds e) (up_to_place s i) found → ForSome found (λ a. EndsAhead None s a.span.end)
ends_in_span e s i found within is = λ a some.
    let ends = all_end (EngineFinds e) None (up_to_place s i) found (inside_of e) (found_first (EngineFinds e) (up_to_place s i) found is) a some in
    record { on = ends.on; further = ends.further; in_span = omega (arith, ends.in_span, within); in_content = ends.in_content }

-- so does what is found at an offset
pub found_inside : (earliest : Bool) (e : Engine) (s : Search) (i : ℕ) (found : Option Found) → IsFoundAt earliest e s i found → ForSome found (λ a. EndsAhead None s a.span.end)
found_inside false e s i found is = ends_in_span e s s.end found (omega arith) is
found_inside true e s i None is = λ a some. absurd (cc some)
found_inside true e s i (Some m) is = ends_in_span e s i (Some m) is.0.in_span is.1

-- the whole match in captures, if they are those of the engine and have its slots
pub record AreFoundAt (earliest : Bool) (e : Engine) (s : Search) (caps : Captured) : Type 0 where
  pub tells : TellsMatch earliest (EngineFinds e) s (match_found caps)
  pub ordered : ForSome (group_span caps 0) (λ (x : Span). x.start ≤ x.end)
  pub inside : ForSome (match_found caps) (λ a. EndsAhead None s a.span.end)

found_by : {finding : Finding} {s : Search} {caps : Captured} → AreNoted finding s caps → IsFound finding s (match_found caps)
found_by are = (are.out, are.finds, are.match_is)

pub captured_at : (earliest : Bool) (e : Engine) (s : Search) (i : ℕ) (caps : Captured) → NotesPlaces e → caps.groups ≡ e.groups → 2 * length e.groups ≤ length caps.slots
    → IsAnswerAt earliest e s i caps.pattern caps.slots → AreFoundAt earliest e s caps
captured_at earliest e s i caps notes same room is = by earliest caps.pattern refl is
  where
    whole : IsAnswer (EngineFinds e) s caps.pattern caps.slots → AreFoundAt false e s caps
    whole answer =
        let are = are_noted e s caps notes (inside_of e) same room answer in
        record {
          tells = record { whether = whether_found (EngineFinds e) s (match_found caps) (found_by are); exact = λ _. found_by are };
          ordered = are.ordered;
          inside = ends_in_span e s s.end (match_found caps) (omega arith) (found_by are);
        }

    by : (b : Bool) (pattern : Option ℕ) → caps.pattern ≡ pattern → IsAnswerAt b e s i pattern caps.slots → AreFoundAt b e s caps
    by false pattern is' answer = whole (subst (λ k. IsAnswer (EngineFinds e) s k caps.slots) (sym is') answer)
    by true None is' answer =
        let are = whole (subst (λ k. IsAnswer (EngineFinds e) s k caps.slots) (sym is') answer) in
        record { tells = record { whether = are.tells.whether; exact = λ e. absurd (cc e) }; ordered = are.ordered; inside = are.inside }
    by true (Some k) is' answer =
        let are = are_noted e (up_to_place s i) caps notes (inside_of e) same room (subst (λ k. IsAnswer (EngineFinds e) (up_to_place s i) k caps.slots) (sym is') answer.1) in
        record {
          tells = record { whether = whether_noted e s i k caps answer.0.in_span is' are; exact = λ e. absurd (cc e) };
          ordered = are.ordered;
          inside = ends_in_span e s i (match_found caps) answer.0.in_span (found_by are);
        }
