-- The next match, from the offsets that it noted.
use Rattle.std.proofs.Common.{◌≡◌, ℕ, ◌+◌, ◌*◌, ◌<◌, ◌≤◌, length, Option, Some, None, option_map, refl, sym, ap, ap₂, subst, ◌∙◌, arith}
use Rattle.std.specs.Option.{ForSome}
use Rattle.std.proofs.lemmas.Option.{none-some, same_Some}
use Rattle.rx_util.specs.declared.search.Span.{Span}
use Rattle.rx_util.specs.Captured.{Captured, span_between, group_span, match_found}
use Rattle.rx_util.specs.Search.{Found}
use Rattle.rx_walks.specs.Machines.{Outcome}
use Rattle.rx_walks.specs.Programs.{Notes}
use Rattle.rx_walks.specs.Finds.{Search, from_place_on}
use Rattle.rx_walks.specs.ProgramFinds.{start_of, end_of}
use Rattle.rx_walks.specs.Iterating.{Finding, nothing, at_once, passed}
use Rattle.rx_program.specs.Laws.{HasNotedOwn}
use Rattle.rx_steps.specs.Threads.{Slots}
use Rattle.rx_steps.specs.Searching.{answer_slots}
use Rattle.rx_chunk.specs.Engines.{Engine, EngineFinds, IsAnswer, match_of, end_noted, start_noted, whole_span}
use Rattle.rx_chunk.specs.Iterating.{ComesNext, EndsAhead, HasNotedNext, IsFoundNext, IsNextAnswer}
use Rattle.rx_chunk.proofs.EngineLaws.{pattern_in}
use Rattle.rx_chunk.proofs.FoundLaws.{IsCaptured, NotesPlaces, captured, captured_is, match_with, span_of, two_places}
use Rattle.rx_chunk.proofs.KindLaws.{InsideLaw, inside_of}
use Rattle.rx_chunk.proofs.IterLaws.{MayStart, all_end}

-- ---- the results of the searches are the next match

module _ (finding : Finding) (s : Search) (last : Option ℕ) where
  none_next : (slots : Slots) (out : Option (Outcome Notes)) → finding s out → None ≡ pattern_in out → slots ≡ answer_slots (length slots) out → IsNextAnswer finding s last None slots
  none_next slots None finds is are = record { out = None; comes = nothing finds; pattern_is = refl; slots_are = are }
  none_next slots (Some t) finds is are = absurd (none-some t.pattern is)

  pub next_none : (pattern : Option ℕ) (slots : Slots) → pattern ≡ None → IsAnswer finding s pattern slots → IsNextAnswer finding s last None slots
  next_none pattern slots none answer = none_next slots answer.found answer.finds (sym none ∙ answer.pattern_is) answer.slots_are

starts_by : (finding : Finding) (s : Search) (k : ℕ) (out : Option (Outcome Notes)) → InsideLaw finding → finding s out → Some k ≡ pattern_in out → MayStart s
starts_by finding s k None law finds is = absurd (none-some k (sym is))
starts_by finding s k (Some t) law finds is =
    let at = law s t finds in
    record { in_span = omega (arith, at.inside.2, at.inside.3); in_content = omega (arith, at.inside.2, at.inside.4) }

-- a search with a match may start one byte later
pub answer_starts : (finding : Finding) (s : Search) (pattern : Option ℕ) (k : ℕ) (slots : Slots) → InsideLaw finding → pattern ≡ Some k → IsAnswer finding s pattern slots → MayStart s
answer_starts finding s pattern k slots law some answer = starts_by finding s k answer.found law answer.finds (sym some ∙ answer.pattern_is)

-- the offsets of a match of this pattern, in its slots
abbrev AreAt : Outcome Notes → ℕ → Slots → Type 0
AreAt t k slots = (start_noted k slots ≡ Some (start_of t)) × (end_noted k slots ≡ Some (end_of t))

at_pattern : (t : Outcome Notes) (k : ℕ) (slots : Slots) → Some k ≡ pattern_in (Some t) → AreAt t t.pattern slots → AreAt t k slots
at_pattern t k slots is at = subst (λ j. AreAt t j slots) (sym (same_Some k t.pattern is)) at

module _ (e : Engine) (notes : NotesPlaces e) where
  places_noted : (t : Outcome Notes) (k : ℕ) (slots : Slots) → 2 * length e.groups ≤ length slots → HasNotedOwn (start_of t) t × (t.pattern < length e.groups) → Some k ≡ pattern_in (Some t)
      → slots ≡ answer_slots (length slots) (Some t) → AreAt t k slots
  places_noted t k slots room noted is are =
      let there : 2 * t.pattern + 1 < length slots = omega (arith, noted.1, room) in
      at_pattern t k slots is (two_places t (length slots) slots there are noted.0)

  module _ (s : Search) (last : Option ℕ) where
    some_next : (k : ℕ) (slots : Slots) (out : Option (Outcome Notes)) → 2 * length e.groups ≤ length slots → EngineFinds e s out → Some k ≡ pattern_in out → slots ≡ answer_slots (length slots) out
        → (start_noted k slots ≡ end_noted k slots → last ≡ end_noted k slots → ⊥) → IsNextAnswer (EngineFinds e) s last (Some k) slots
    some_next k slots None room finds is are apart = absurd (none-some k (sym is))
    some_next k slots (Some t) room finds is are apart =
        let places = places_noted t k slots room (notes s t finds) is are in
        record {
          out = Some t;
          comes = at_once finds (λ empty. apart (places.0 ∙ ap (λ i. Some i) empty.0 ∙ sym places.1) (empty.1 ∙ sym places.1));
          pattern_is = is;
          slots_are = are;
        }

    pub next_some : (pattern : Option ℕ) (k : ℕ) (slots : Slots) → pattern ≡ Some k → 2 * length e.groups ≤ length slots → IsAnswer (EngineFinds e) s pattern slots
        → (start_noted k slots ≡ end_noted k slots → last ≡ end_noted k slots → ⊥) → IsNextAnswer (EngineFinds e) s last (Some k) slots
    next_some pattern k slots some room answer apart = some_next k slots answer.found room answer.finds (sym some ∙ answer.pattern_is) answer.slots_are apart

    further_next : (k : ℕ) (slots : Slots) (out : Option (Outcome Notes)) (next : Option ℕ) (others : Slots) → 2 * length e.groups ≤ length slots → EngineFinds e s out → Some k ≡ pattern_in out → slots ≡ answer_slots (length slots) out
        → (start_noted k slots ≡ end_noted k slots) × (last ≡ end_noted k slots) → IsAnswer (EngineFinds e) (from_place_on s (s.start + 1)) next others → IsNextAnswer (EngineFinds e) s last next others
    further_next k slots None next others room finds is are here answer = absurd (none-some k (sym is))
    further_next k slots (Some t) next others room finds is are here answer =
        let places = places_noted t k slots room (notes s t finds) is are in
        record {
          out = answer.found;
          comes = passed finds (same_Some (start_of t) (end_of t) (sym places.0 ∙ here.0 ∙ places.1), here.1 ∙ places.1) answer.finds;
          pattern_is = answer.pattern_is;
          slots_are = answer.slots_are;
        }

    pub next_passed : (pattern : Option ℕ) (k : ℕ) (slots : Slots) (next : Option ℕ) (others : Slots) → pattern ≡ Some k → 2 * length e.groups ≤ length slots → IsAnswer (EngineFinds e) s pattern slots
        → (start_noted k slots ≡ end_noted k slots) × (last ≡ end_noted k slots) → IsAnswer (EngineFinds e) (from_place_on s (s.start + 1)) next others → IsNextAnswer (EngineFinds e) s last next others
    next_passed pattern k slots next others some room first here answer = further_next k slots first.found next others room first.finds (sym some ∙ first.pattern_is) first.slots_are here answer

    -- ---- its match

    -- if it was found, it noted its offsets, in order
    comes_noted : {out : Option (Outcome Notes)} (t : Outcome Notes) → ComesNext (EngineFinds e) s last out → out ≡ Some t → HasNotedOwn (start_of t) t × (t.pattern < length e.groups)
    comes_noted t (nothing finds) is = absurd (cc is)
    comes_noted t (at_once {t = a} finds not) is = notes s t (subst (λ o. EngineFinds e s o) is finds)
    comes_noted t (passed {out = o} finds empty further) is = notes (from_place_on s (s.start + 1)) t (subst (λ o. EngineFinds e (from_place_on s (s.start + 1)) o) is further)

    comes_ordered : {out : Option (Outcome Notes)} (t : Outcome Notes) → ComesNext (EngineFinds e) s last out → out ≡ Some t → start_of t ≤ end_of t
    comes_ordered t (nothing finds) is = absurd (cc is)
    comes_ordered t (at_once {t = a} finds not) is = (inside_of e s t (subst (λ o. EngineFinds e s o) is finds)).ordered
    comes_ordered t (passed {out = o} finds empty further) is =
        (inside_of e (from_place_on s (s.start + 1)) t (subst (λ o. EngineFinds e (from_place_on s (s.start + 1)) o) is further)).ordered

    nothing_by : (out : Option (Outcome Notes)) → ComesNext (EngineFinds e) s last out → None ≡ pattern_in out → IsFoundNext (EngineFinds e) s last None
    nothing_by None comes is = (None, comes, refl)
    nothing_by (Some t) comes is = absurd (none-some t.pattern is)

    pub nothing_next : (pattern : Option ℕ) (slots : Slots) → pattern ≡ None → IsNextAnswer (EngineFinds e) s last pattern slots → IsFoundNext (EngineFinds e) s last None
    nothing_next pattern slots none answer = nothing_by answer.out answer.comes (sym none ∙ answer.pattern_is)

    span_by : (k : ℕ) (slots : Slots) (out : Option (Outcome Notes)) → 2 * length e.groups ≤ length slots → ComesNext (EngineFinds e) s last out → Some k ≡ pattern_in out → slots ≡ answer_slots (length slots) out
        → (t : Outcome Notes) × (out ≡ Some t) × (t.pattern ≡ k) × (whole_span k slots ≡ Some (span_of t))
    span_by k slots None room comes is are = absurd (none-some k (sym is))
    span_by k slots (Some t) room comes is are =
        let places = places_noted t k slots room (comes_noted t comes refl) is are in
        (t, refl, sym (same_Some k t.pattern is), ap₂ (λ i j. span_between i j) places.0 places.1)

    pub found_next : (pattern : Option ℕ) (k : ℕ) (slots : Slots) (result : Option Found) → pattern ≡ Some k → 2 * length e.groups ≤ length slots → result ≡ option_map (match_with k) (whole_span k slots)
        → IsNextAnswer (EngineFinds e) s last pattern slots → IsFoundNext (EngineFinds e) s last result
    found_next pattern k slots result some room told answer =
        let t = span_by k slots answer.out room answer.comes (sym some ∙ answer.pattern_is) answer.slots_are in (
          answer.out,
          answer.comes,
          told ∙ ap (λ o. option_map (match_with k) o) t.3 ∙ ap (λ j. Some (match_with j (span_of t.0))) (sym t.2) ∙ ap (λ o. option_map match_of o) (sym t.1),
        )

    pub in_order : (pattern : Option ℕ) (k : ℕ) (slots : Slots) → pattern ≡ Some k → 2 * length e.groups ≤ length slots → IsNextAnswer (EngineFinds e) s last pattern slots
        → ForSome (whole_span k slots) (λ (x : Span). x.start ≤ x.end)
    in_order pattern k slots some room answer = λ x is.
        let t = span_by k slots answer.out room answer.comes (sym some ∙ answer.pattern_is) answer.slots_are in
        let ordered : start_of t.0 ≤ end_of t.0 = comes_ordered t.0 answer.comes t.1 in
        let same : span_of t.0 ≡ x = same_Some (span_of t.0) x (sym t.3 ∙ is) in
        subst (λ (y : Span). y.start ≤ y.end) same ordered

    -- ---- the same in captures

    pub noted_next : (caps : Captured) → caps.groups ≡ e.groups → 2 * length e.groups ≤ length caps.slots → IsNextAnswer (EngineFinds e) s last caps.pattern caps.slots
        → HasNotedNext (EngineFinds e) s last caps × ForSome (group_span caps 0) (λ (x : Span). x.start ≤ x.end)
    noted_next caps same room answer =
        let is : IsCaptured (captured caps.groups (pattern_in answer.out) caps.slots) answer.out =
        captured_is e caps.groups caps.slots answer.out same room answer.slots_are
        (λ t out_is. let noted = comes_noted t answer.comes out_is in (noted.0, noted.1, comes_ordered t answer.comes out_is)) in
        let are : IsCaptured caps answer.out = subst (λ pattern. IsCaptured (captured caps.groups pattern caps.slots) answer.out) (sym answer.pattern_is) is in
        (record { out = answer.out; comes = answer.comes; noted = are.noted; match_is = are.match_is }, are.ordered)

-- and ends ahead
pub next_ends : (e : Engine) (s : Search) (last : Option ℕ) (caps : Captured) → HasNotedNext (EngineFinds e) s last caps → ForSome (match_found caps) (λ a. EndsAhead last s a.span.end)
next_ends e s last caps n = all_end (EngineFinds e) last s (match_found caps) (inside_of e) (n.out, n.comes, n.match_is)
