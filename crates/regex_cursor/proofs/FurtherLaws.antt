-- The next match, in at most two slots.
use Rattle.std.proofs.Common.{◌≡◌, ℕ, zero, suc, ◌+◌, ◌*◌, ◌<◌, ◌≤◌, ◌^◌, [], ◌∷◌, length, Option, Some, None, option_map, refl, sym, ap, ap₂, subst, ◌∙◌, arith}
use Rattle.std.proofs.lemmas.List.{length-replicate}
use Rattle.std.proofs.lemmas.Option.{same_Some}
use Rattle.rx_util.specs.Search.{Found}
use Rattle.rx_walks.specs.Machines.{Outcome}
use Rattle.rx_walks.specs.Programs.{Notes, slot_of}
use Rattle.rx_walks.specs.Finds.{Search, from_place_on}
use Rattle.rx_walks.specs.ProgramFinds.{start_of, end_of}
use Rattle.rx_walks.specs.Iterating.{Finding, nothing, at_once, passed}
use Rattle.rx_steps.specs.Searching.{answer_slots}
use Rattle.rx_steps.specs.Threads.{Slots, no_slots}
use Rattle.rx_literals.specs.Literals.{literal_match}
use Rattle.rx_engine.specs.Engines.{Engine, IsEngine}
use Rattle.rx_chunk.specs.Engines.{EngineFinds, match_of}
use Rattle.rx_chunk.specs.Iterating.{ComesNext, IsFoundNext, IsNextAnswer}
use Rattle.rx_chunk.proofs.FoundLaws.{notes_places}
use Rattle.rx_chunk.proofs.KindLaws.{inside_of}
use Rattle.regex_cursor.proofs.StrategyLaws.{IsFirst}

-- the next match is found from some offset of the same haystack on
pub record IsFoundOn (finding : Finding) (s : Search) (t : Outcome Notes) : Type 0 where
  pub search : Search
  pub content : search.content ≡ s.content
  pub finds : finding search (Some t)

pub found_on : (finding : Finding) (s : Search) (last : Option ℕ) (t : Outcome Notes) (out : Option (Outcome Notes)) → ComesNext finding s last out → out ≡ Some t → IsFoundOn finding s t
found_on finding s last t out (nothing finds) e = absurd (cc e)
found_on finding s last t out (at_once {t = u} finds not) e = record { search = s; content = refl; finds = subst (λ o. finding s o) e finds }
found_on finding s last t out (passed {t = u} finds empty further) e = record { search = from_place_on s (s.start + 1); content = refl; finds = subst (λ o. finding (from_place_on s (s.start + 1)) o) e further }

module _ (e : Engine) (of_trees : IsEngine e) (first : IsFirst e) (s : Search) (last : Option ℕ) (found : Found) where
  -- so its offsets are small enough for slots
  pub next_fits : length s.content < 2 ^ 63 → IsFoundNext (EngineFinds e) s last (Some found) → (found.span.start < 2 ^ 63) × (found.span.end < 2 ^ 63)
  next_fits bound is = by is.0 is.1 is.2
    where
      by : (out : Option (Outcome Notes)) → ComesNext (EngineFinds e) s last out → Some found ≡ option_map match_of out → (found.span.start < 2 ^ 63) × (found.span.end < 2 ^ 63)
      by None comes told = absurd (cc told)
      by (Some t) comes told =
          let same : found ≡ match_of t = same_Some found (match_of t) told in
          let start : found.span.start ≡ start_of t = ap (λ (f : Found). f.span.start) same in
          let end : found.span.end ≡ end_of t = ap (λ (f : Found). f.span.end) same in
          let on = found_on (EngineFinds e) s last t (Some t) comes refl in
          let lies = inside_of e on.search t on.finds in
          let within : end_of t ≤ length on.search.content = lies.inside.4 in
          let content : length on.search.content ≡ length s.content = ap length on.content in
          (omega (arith, bound, start, within, content, lies.ordered), omega (arith, bound, end, within, content))

  -- at most two slots are those of the whole match
  same_slots : (t : Outcome Notes) (n : ℕ) → n ≤ 2 → slot_of t.notes 0 ≡ Some found.span.start → slot_of t.notes 1 ≡ Some found.span.end → answer_slots n (Some (literal_match found.span)) ≡ answer_slots n (Some t)
  same_slots t zero few start end = refl
  same_slots t (suc zero) few start end = ap (λ a. a ∷ []) (sym start)
  same_slots t (suc (suc zero)) few start end = ap₂ (λ a b. a ∷ b ∷ []) (sym start) (sym end)
  same_slots t (suc (suc (suc n))) few start end = absurd (omega (arith, few))

  -- and in slots for the whole match only it has these
  pub next_told : (slots : Slots) (n : ℕ) → n ≤ 2 → 2 * length e.groups ≤ n → length slots ≡ n → slots ≡ answer_slots n (Some (literal_match found.span)) → IsFoundNext (EngineFinds e) s last (Some found)
      → IsNextAnswer (EngineFinds e) s last (Some found.pattern) slots
  next_told slots n few room len slots_are is = by is.0 is.1 is.2
    where
      by : (out : Option (Outcome Notes)) → ComesNext (EngineFinds e) s last out → Some found ≡ option_map match_of out → IsNextAnswer (EngineFinds e) s last (Some found.pattern) slots
      by None comes told = absurd (cc told)
      by (Some t) comes told =
          let same : found ≡ match_of t = same_Some found (match_of t) told in
          let on = found_on (EngineFinds e) s last t (Some t) comes refl in
          let notes = notes_places e of_trees on.search t on.finds in
          let pattern : t.pattern ≡ 0 = omega (arith, notes.1, room, few) in
          let start : slot_of t.notes 0 ≡ Some found.span.start =
          ap (λ k. slot_of t.notes (2 * k)) (sym pattern) ∙ notes.0.start ∙ ap (λ (f : Found). Some f.span.start) (sym same) in
          let end : slot_of t.notes 1 ≡ Some found.span.end =
          ap (λ k. slot_of t.notes (2 * k + 1)) (sym pattern) ∙ notes.0.end ∙ ap (λ (f : Found). Some f.span.end) (sym same) in
          record {
            out = Some t;
            comes = comes;
            pattern_is = ap (λ (f : Found). Some f.pattern) same;
            slots_are = slots_are ∙ same_slots t n few start end ∙ ap (λ k. answer_slots k (Some t)) (sym len);
          }

-- and if there is none, all slots are empty
pub none_next_told : (e : Engine) (s : Search) (last : Option ℕ) (slots : Slots) (n : ℕ) → slots ≡ no_slots n → IsFoundNext (EngineFinds e) s last None → IsNextAnswer (EngineFinds e) s last None slots
none_next_told e s last slots n none is = by is.0 is.1 is.2
  where
    by : (out : Option (Outcome Notes)) → ComesNext (EngineFinds e) s last out → None ≡ option_map match_of out → IsNextAnswer (EngineFinds e) s last None slots
    by None comes told = record { out = None; comes = comes; pattern_is = refl; slots_are = none ∙ ap (λ k. answer_slots k None) (sym (ap length none ∙ length-replicate n None)) }
    by (Some t) comes told = absurd (cc told)
