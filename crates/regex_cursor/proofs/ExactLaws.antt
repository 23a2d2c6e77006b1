-- The next match if each match is a literal.
use Rattle.std.proofs.Common.{◌≡◌, ℕ, ◌+◌, ◌<◌, ◌≤◌, ◌^◌, List, length, take, Option, Some, None, refl, sym, ap, subst, ◌∙◌, arith}
use Rattle.std.proofs.lemmas.List.{length-take}
use Rattle.std.proofs.lemmas.Option.{same_Some}
use Rattle.unicode.specs.Perl.{is_word_char}
use Rattle.std.specs.Option.{ForSome}
use Rattle.rx_util.specs.declared.search.Span.{Span}
use Rattle.rx_util.specs.Search.{Found}
use Rattle.rx_input.specs.Inputs.{InputState}
use Rattle.rx_walks.specs.Finds.{Search}
use Rattle.rx_walks.specs.Iterating.{at_once}
use Rattle.rx_program.specs.Programs.{character_program}
use Rattle.rx_steps.specs.Searching.{anchoring_of, answer_slots, search_of}
use Rattle.rx_steps.specs.Threads.{Slots, no_slots}
use Rattle.rx_literals.specs.Needles.{AreNeedles, FoundAt, no_needle, this_needle, other_needle, FoundBetween, nowhere, at_least_place, FoundInSpan, bytes_to_end}
use Rattle.rx_literals.specs.Literals.{FindsLiteral, IsLiteralOf, literal_match}
use Rattle.rx_literals.proofs.FoundLaws.{end_inside}
use Rattle.rx_literals.proofs.LiteralLaws.{literals_find}
use Rattle.rx_literals.proofs.NeedleLaws.{found_start}
use Rattle.rx_engine.specs.Engines.{Engine}
use Rattle.rx_chunk.specs.Engines.{EngineFinds, Finds}
use Rattle.rx_chunk.specs.Iterating.{EndsAhead, IsFoundNext}
use Rattle.rx_chunk.proofs.IterLaws.{found_ends}
use Rattle.rx_chunk.proofs.KindLaws.{inside_of}
use Rattle.regex_cursor.specs.Linear.{TellsWhatComes}
use Rattle.regex_cursor.specs.Literals.{AsksInSlice}
use Rattle.regex_cursor.proofs.LinearLaws.{tells_none}
use Rattle.regex_cursor.proofs.StrategyLaws.{IsFirst, literal_found, none_found_next, nothing_comes, slots_length}

-- ---- where it is found

found_behind : {bytes : List ℕ} {needles : List (List ℕ)} {from to : ℕ} {out : Option Span} {span : Span} → FoundBetween bytes needles from to out → out ≡ Some span → from ≤ span.start
found_behind (nowhere none) e = absurd (cc e)
found_behind {bytes} {needles} (at_least_place i low high here before) e =
    let start = found_start (subst (λ o. FoundAt bytes i needles o) e here) in omega (arith, low, start)

at_ordered : {bytes : List ℕ} {i : ℕ} {needles : List (List ℕ)} {out : Option Span} {span : Span} → FoundAt bytes i needles out → out ≡ Some span → span.start ≤ span.end
at_ordered no_needle e = absurd (cc e)
at_ordered {i = i} {span = span} (this_needle {needle = needle} occurs) e = subst (λ (x : Span). x.start ≤ x.end) (same_Some (record { start = i; end = i + length needle }) span e) (omega arith)
at_ordered (other_needle absent found) e = at_ordered found e

pub found_ordered : {bytes : List ℕ} {needles : List (List ℕ)} {from to : ℕ} {out : Option Span} {span : Span} → FoundBetween bytes needles from to out → out ≡ Some span → span.start ≤ span.end
found_ordered (nowhere none) e = absurd (cc e)
found_ordered (at_least_place i low high here before) e = at_ordered here e

-- its offsets fit slots
pub found_fits : (needles : List (List ℕ)) (i : InputState) (span : Span) → FoundInSpan needles i (Some span) → length i.cursor.content < 2 ^ 63 → (span.start < 2 ^ 63) × (span.end < 2 ^ 63)
found_fits needles i span found bound =
    let ends_ = end_inside found in
    let long = length-take i.asked.span.end i.cursor.content in
    (omega (arith, found_ordered found refl, ends_, long, bound), omega (arith, ends_, long, bound))

module _ (needles : List (List ℕ)) (are : AreNeedles needles) (e : Engine) (literal : IsLiteralOf needles (character_program e.program)) (i : InputState) (asks : AsksInSlice i.asked) where
  abbrev S : Search
  S = search_of e.utf8_empty i

  -- in a span that is inside the slice the literal's occurrence is the match found
  pub finds_there : (span : Span) → FoundInSpan needles i (Some span) → FindsLiteral (character_program e.program) is_word_char S span
  finds_there span found =
      let law = literals_find needles (character_program e.program) is_word_char S are literal in
      law.first span (ap anchoring_of asks.unanchored) found (record {
        from = omega (arith, asks.from, found_behind found refl);
        to = omega (arith, asks.to, end_inside found, length-take i.asked.span.end i.cursor.content);
      })

  pub finds_none : FoundInSpan needles i None → Finds e.program S None
  finds_none none =
      let law = literals_find needles (character_program e.program) is_word_char S are literal in
      law.nowhere (ap anchoring_of asks.unanchored) none

  pub match_comes : IsFirst e → (last : Option ℕ) (span : Span) → FoundInSpan needles i (Some span) → IsFoundNext (EngineFinds e) S last (Some (record { pattern = 0; span = span }))
  match_comes first last span found =
      let there = finds_there span found in
      (Some (literal_match span), at_once (literal_found e first S span there) (λ empty. omega (arith, there.some, empty.0)), refl)

  pub no_match_comes : IsFirst e → (last : Option ℕ) → FoundInSpan needles i None → IsFoundNext (EngineFinds e) S last None
  no_match_comes first last none = none_found_next e first S last (finds_none none)

  module _ (first : IsFirst e) (last : Option ℕ) (slots : Slots) (n : ℕ) where
    -- so it is the next match: it isn't empty
    pub literal_comes : (span : Span) → slots ≡ answer_slots n (Some (literal_match span)) → FoundInSpan needles i (Some span) → TellsWhatComes (EngineFinds e) S last (Some (record { pattern = 0; offset = span.end })) slots
    literal_comes span is found =
        let there = finds_there span found in
        let len : length slots ≡ n = ap (λ xs. length xs) is ∙ slots_length 0 n (literal_match span).notes in
        record {
          out = Some (literal_match span);
          comes = at_once (literal_found e first S span there) (λ empty. omega (arith, there.some, empty.0));
          half_is = refl;
          slots_are = is ∙ ap (λ k. answer_slots k (Some (literal_match span))) (sym len);
        }

    pub none_comes : slots ≡ no_slots n → FoundInSpan needles i None → TellsWhatComes (EngineFinds e) S last None slots
    none_comes is none = tells_none (EngineFinds e) S last slots (nothing_comes e first S last slots n (finds_none none) is)

-- the next match ends ahead
pub next_ahead : (e : Engine) (s : Search) (last : Option ℕ) (found : Option Found) → IsFoundNext (EngineFinds e) s last found → ForSome found (λ m. EndsAhead last s m.span.end)
next_ahead e s last None is = λ m some. absurd (cc some)
next_ahead e s last (Some a) is = λ m some. subst (λ (x : Found). EndsAhead last s x.span.end) (same_Some a m some) (found_ends (EngineFinds e) last s a (inside_of e) is)
