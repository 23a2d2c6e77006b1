-- The result of a step below, as a result of an engine.
use Rattle.std.proofs.Common.{◌≡◌, ℕ, zero, suc, ◌≤◌, Bool, true, false, length, Option, Some, None, refl, sym, ap, subst, ◌∙◌, arith}
use Rattle.unicode.specs.Perl.{is_word_char}
use Rattle.rx_util.specs.declared.search.MatchKind.TheVariants.{All}
use Rattle.rx_util.specs.Search.{Found}
use Rattle.rx_utf8.specs.Automata.{is_in}
use Rattle.rx_walks.specs.Programs.{Notes}
use Rattle.rx_walks.specs.Finds.{Search, up_to_place}
use Rattle.rx_walks.specs.Iterating.{Finding}
use Rattle.rx_walks.proofs.InsideLaws.{finds_all_lie_inside}
use Rattle.rx_program.specs.Programs.{ByteProgram, character_program}
use Rattle.rx_steps.specs.Threads.{Slots, no_slots}
use Rattle.rx_steps.specs.Searching as steps
use Rattle.rx_steps.specs.Searching.{IsFirstEnd, answer_slots, slots_from}
use Rattle.rx_steps.specs.SearchingAll.{IsAnswerAll, IsAnswerAllAt, pattern_match}
use Rattle.rx_chunk.specs.Engines.{Engine, EngineFinds, Finds, IsAnswer, IsAnswerAt, StopsAs, noted_whole}
use Rattle.rx_chunk.proofs.KindLaws.{finds_all}

-- ---- of a search for the leftmost match

pub as_answer : {p : ByteProgram} {s : Search} {pattern : Option ℕ} {slots : Slots} → steps.IsAnswer p s pattern slots → IsAnswer (Finds p) s pattern slots
as_answer answer = record { found = answer.found; finds = answer.finds; pattern_is = answer.pattern_is; slots_are = answer.slots_are }

-- ---- of a search for all matches

all_none : (e : Engine) (s : Search) (slots : Slots) → e.match_kind ≡ All → IsAnswerAll e.program s None → slots ≡ no_slots (length slots) → IsAnswer (EngineFinds e) s None slots
all_none e s slots all is none = subst (λ (finding : Finding). IsAnswer finding s None slots) (finds_all e all) (record {
  found = None;
  finds = record { found = None; finds = is; out_is = refl };
  pattern_is = refl;
  slots_are = none;
})

all_some : (e : Engine) (s : Search) (m : Found) (slots : Slots) → e.match_kind ≡ All → IsAnswerAll e.program s (Some m) → slots ≡ answer_slots (length slots) (Some (noted_whole (pattern_match m))) → IsAnswer (EngineFinds e) s (Some m.pattern) slots
all_some e s m slots all is are = subst (λ (finding : Finding). IsAnswer finding s (Some m.pattern) slots) (finds_all e all) (record {
  found = Some (noted_whole (pattern_match m));
  finds = record { found = Some (pattern_match m); finds = is; out_is = refl };
  pattern_is = refl;
  slots_are = are;
})

pub none_of_all_at : (earliest : Bool) (e : Engine) (s : Search) (i : ℕ) (found : Option Found) (slots : Slots) → e.match_kind ≡ All → found ≡ None → IsAnswerAllAt earliest e.program s i found → slots ≡ no_slots (length slots)
    → IsAnswerAt earliest e s i None slots
none_of_all_at false e s i None slots all is answer none = all_none e s slots all answer none
none_of_all_at true e s i None slots all is answer none = all_none e s slots all answer none
none_of_all_at earliest e s i (Some m) slots all is answer none = absurd (cc is)

module _ (e : Engine) (s : Search) (i : ℕ) (m : Found) (all : e.match_kind ≡ All) where
  some_at : (earliest : Bool) (slots : Slots) → IsAnswerAllAt earliest e.program s i (Some m) → slots ≡ answer_slots (length slots) (Some (noted_whole (pattern_match m))) → IsAnswerAt earliest e s i (Some m.pattern) slots
  some_at false slots answer are = all_some e s m slots all answer are
  some_at true slots answer are = (answer.1, all_some e (up_to_place s i) m slots all answer.2 are)

  stops_at : (earliest : Bool) → IsAnswerAllAt earliest e.program s i (Some m) → earliest ≡ true → IsFirstEnd e.program s i
  stops_at false answer e = absurd (cc e)
  stops_at true answer e = answer.1

  fits_at : (earliest : Bool) → IsAnswerAllAt earliest e.program s i (Some m) → (m.span.start ≤ length s.content) × (m.span.end ≤ length s.content)
  fits_at false answer =
      let at = finds_all_lie_inside is_in is_word_char (character_program e.program) s (pattern_match m) answer in
      let end : m.span.end ≤ length s.content = at.inside.4 in
      (omega (arith, at.ordered, end), end)
  fits_at true answer =
      let at = finds_all_lie_inside is_in is_word_char (character_program e.program) (up_to_place s i) (pattern_match m) answer.2 in
      let end : m.span.end ≤ length s.content = at.inside.4 in
      (omega (arith, at.ordered, end), end)

  pub some_of_all_at : (earliest : Bool) (found : Option Found) (slots : Slots) → found ≡ Some m → IsAnswerAllAt earliest e.program s i found → slots ≡ answer_slots (length slots) (Some (noted_whole (pattern_match m)))
      → IsAnswerAt earliest e s i (Some m.pattern) slots
  some_of_all_at earliest found slots is answer are = some_at earliest slots (subst (λ o. IsAnswerAllAt earliest e.program s i o) is answer) are

  pub all_stops : (earliest : Bool) (found : Option Found) → found ≡ Some m → IsAnswerAllAt earliest e.program s i found → StopsAs e.match_kind earliest e.program s i
  all_stops earliest found is answer = subst (λ kind. StopsAs kind earliest e.program s i) (sym all) (stops_at earliest (subst (λ o. IsAnswerAllAt earliest e.program s i o) is answer))

  pub all_fits : (earliest : Bool) (found : Option Found) → found ≡ Some m → IsAnswerAllAt earliest e.program s i found → (m.span.start ≤ length s.content) × (m.span.end ≤ length s.content)
  all_fits earliest found is answer = fits_at earliest (subst (λ o. IsAnswerAllAt earliest e.program s i o) is answer)

slots_length : (first n : ℕ) (notes : Notes) → length (slots_from first n notes) ≡ n
slots_length first zero notes = refl
slots_length first (suc n) notes = ap suc (slots_length (suc first) n notes)

-- as many as there are
pub slots_are : (m : Found) (slots : Slots) (n : ℕ) → slots ≡ answer_slots n (Some (noted_whole (pattern_match m))) → slots ≡ answer_slots (length slots) (Some (noted_whole (pattern_match m)))
slots_are m slots n is =
    let len : length slots ≡ n = ap length is ∙ slots_length 0 n (noted_whole (pattern_match m)).notes in
    is ∙ ap (λ k. answer_slots k (Some (noted_whole (pattern_match m)))) (sym len)
