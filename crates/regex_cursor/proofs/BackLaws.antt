-- Matches whose starts are found by backward searches from where they end.
use Rattle.std.proofs.Common.{◌≡◌, ℕ, zero, suc, ◌*◌, ◌+◌, ◌<◌, ◌≤◌, ◌^◌, Bool, false, [], ◌∷◌, length, Option, Some, None, IfSome, option_map, refl, sym, ap, ap₂, subst, ◌∙◌, arith}
use Rattle.std.proofs.lemmas.Option.{same_Some}
use Rattle.unicode.specs.Perl.{is_word_char}
use Rattle.rx_utf8.specs.Automata.{is_in}
use Rattle.rx_util.specs.declared.search.Span.{Span}
use Rattle.rx_util.specs.Search.{Found, HalfFound}
use Rattle.rx_walks.specs.Machines.{Outcome}
use Rattle.rx_walks.specs.Programs.{Notes, slot_of}
use Rattle.rx_walks.specs.Finds.{Search}
use Rattle.rx_walks.specs.ProgramFinds.{start_of, end_of}
use Rattle.rx_program.specs.Laws.{HasNotedOwn}
use Rattle.rx_program.specs.Programs.{ByteProgram, character_program}
use Rattle.rx_input.specs.Inputs.{InputState}
use Rattle.rx_input.specs.Searchers.{EndsInside}
use Rattle.rx_steps.specs.Searching.{answer_slots, search_of}
use Rattle.rx_steps.specs.Threads.{Slots}
use Rattle.rx_dfa.specs.Searching.{IsHalfAnswer}
use Rattle.rx_literals.specs.Literals.{FindsLiteral, literal_match, within}
use Rattle.rx_engine.specs.Engines.{Engine, IsEngine}
use Rattle.rx_chunk.specs.Engines.{EngineFinds, Finds, IsFound, TellsMatch, TellsSlots, match_of}
use Rattle.rx_chunk.specs.Iterating.{IsFoundNext}
use Rattle.rx_chunk.specs.Searches as searches
use Rattle.rx_chunk.proofs.FoundLaws.{notes_places}
use Rattle.rx_chunk.proofs.KindLaws.{finds_first}
use Rattle.rx_matches.proofs.HalfLaws.{inside_law}
use Rattle.regex_cursor.specs.Backs.{EndsLast}
use Rattle.regex_cursor.specs.declared.engines.meta.left.Part.{Part}
use Rattle.regex_cursor.specs.Regexes.{TellsHalf}
use Rattle.regex_cursor.specs.Strategies.{FindsUpTo, IsPart}
use Rattle.regex_cursor.proofs.StrategyLaws.{InsideLaw, IsFirst, by_engine, literal_told}

-- ---- halves

-- the match found, from its half
pub up_to : (p : ByteProgram) (s : Search) (half : HalfFound) → IsHalfAnswer p s (Some half) → FindsUpTo p s half.pattern half.offset
up_to p s half answer = by answer.found answer.finds answer.met_is
  where
    by : (out : Option (Outcome Notes)) → Finds p s out → Some half ≡ option_map (λ (t : Outcome Notes). record { pattern = t.pattern; offset = t.end }) out → FindsUpTo p s half.pattern half.offset
    by None finds is = absurd (cc is)
    by (Some t) finds is =
        let same : half ≡ record { pattern = t.pattern; offset = t.end } = same_Some half (record { pattern = t.pattern; offset = t.end }) is in
        record { found = t; finds = finds; pattern_is = sym (ap (λ (h : HalfFound). h.pattern) same); end_is = sym (ap (λ (h : HalfFound). h.offset) same) }

pub half_up : (p : ByteProgram) (s : Search) (k end : ℕ) → FindsUpTo p s k end → IsHalfAnswer p s (Some (record { pattern = k; offset = end }))
half_up p s k end up = record {
  found = Some up.found;
  finds = up.finds;
  met_is = ap₂ (λ j e. Some (record { pattern = j; offset = e })) (sym up.pattern_is) (sym up.end_is);
}

-- in an input where it ends
pub ends_half : (p : ByteProgram) (utf8_empty : Bool) (i : InputState) (k : ℕ) (half : HalfFound) → half.pattern ≡ k → half.offset ≡ i.asked.span.end → EndsLast p utf8_empty i k → IsHalfAnswer p (search_of utf8_empty i) (Some half)
ends_half p utf8_empty i k half pattern offset last = subst (λ h. IsHalfAnswer p (search_of utf8_empty i) (Some h)) (ap₂ (λ j e. record { pattern = j; offset = e }) (sym pattern) (sym offset)) last

-- of an input whose span is limited to a part at whose end the match ends
pub known_last : (p : ByteProgram) (utf8_empty : Bool) (s : Search) (i : InputState) (part : Span) (pattern : Option ℕ) → IfSome pattern (λ k. FindsUpTo p (within s part) k part.end) → search_of utf8_empty i ≡ within s part → i.asked.span.end ≡ part.end
    → IfSome pattern (EndsLast p utf8_empty i)
known_last p utf8_empty s i part None up search end = tt
known_last p utf8_empty s i part (Some k) up search end =
    subst (λ x. IsHalfAnswer p x (Some (record { pattern = k; offset = i.asked.span.end }))) (sym search)
    (subst (λ e. IsHalfAnswer p (within s part) (Some (record { pattern = k; offset = e }))) (sym end) (half_up p (within s part) k part.end up))

-- ---- results

module _ (e : Engine) (first : IsFirst e) (s : Search) (found : Found) where
  -- it is the match found
  record HasOutcome : Type 0 where
    outcome : Outcome Notes
    finds : EngineFinds e s (Some outcome)
    is : found ≡ match_of outcome

  has_outcome : IsFound (Finds e.program) s (Some found) → HasOutcome
  has_outcome is = by is.0 is.1 is.2
    where
      by : (out : Option (Outcome Notes)) → Finds e.program s out → Some found ≡ option_map match_of out → HasOutcome
      by None finds is = absurd (cc is)
      by (Some t) finds is = record { outcome = t; finds = by_engine e first (λ finding. finding s (Some t)) finds; is = same_Some found (match_of t) is }

  pub found_told : (earliest : Bool) → IsFound (Finds e.program) s (Some found) → TellsMatch earliest (EngineFinds e) s (Some found)
  found_told earliest is =
      let h = has_outcome is in
      record {
        whether = (Some h.outcome, h.finds, (λ told. told, λ told. told));
        exact = λ any. (Some h.outcome, h.finds, ap Some h.is);
      }

  -- in at most two slots
  same_slots : (t : Outcome Notes) (n : ℕ) → n ≤ 2 → slot_of t.notes 0 ≡ Some found.span.start → slot_of t.notes 1 ≡ Some found.span.end → answer_slots n (Some (literal_match found.span)) ≡ answer_slots n (Some t)
  same_slots t zero few start end = refl
  same_slots t (suc zero) few start end = ap (λ a. a ∷ []) (sym start)
  same_slots t (suc (suc zero)) few start end = ap₂ (λ a b. a ∷ b ∷ []) (sym start) (sym end)
  same_slots t (suc (suc (suc n))) few start end = absurd (omega (arith, few))

  pub slots_told : IsEngine e → (earliest : Bool) (slots : Slots) (n : ℕ) → n ≤ 2 → length slots ≡ n → found.pattern ≡ 0 → slots ≡ answer_slots n (Some (literal_match found.span)) → IsFound (Finds e.program) s (Some found) → TellsSlots earliest (EngineFinds e) s (Some 0) slots
  slots_told of_trees earliest slots n few len zero_is slots_are is =
      let h = has_outcome is in
      let t = h.outcome in
      let pattern : t.pattern ≡ 0 = sym (ap (λ (f : Found). f.pattern) h.is) ∙ zero_is in
      let noted : HasNotedOwn (start_of t) t = (notes_places e of_trees s t h.finds).0 in
      let start : slot_of t.notes 0 ≡ Some found.span.start =
      ap (λ k. slot_of t.notes (2 * k)) (sym pattern) ∙ noted.start ∙ ap (λ (f : Found). Some f.span.start) (sym h.is) in
      let end : slot_of t.notes 1 ≡ Some found.span.end =
      ap (λ k. slot_of t.notes (2 * k + 1)) (sym pattern) ∙ noted.end ∙ ap (λ (f : Found). Some f.span.end) (sym h.is) in
      record {
        whether = (Some t, h.finds, (λ told. told, λ told. told));
        exact = λ any. record {
          found = Some t;
          finds = h.finds;
          pattern_is = ap Some (sym pattern);
          slots_are = slots_are ∙ same_slots t n few start end ∙ ap (λ k. answer_slots k (Some t)) (sym len);
        };
        none = λ nothing_there. absurd (cc nothing_there);
      }

-- ---- the next match

module _ (e : Engine) (first : IsFirst e) where
  pub exactly : (i : InputState) (found : Option Found) → i.asked.earliest ≡ false → searches.TellsMatch e i found → IsFound (Finds e.program) (search_of e.utf8_empty i) found
  exactly i found all told = subst (λ finding. IsFound finding (search_of e.utf8_empty i) found) (sym (finds_first e first)) (told.exact all)

  pub comes_next : (s : Search) (last : Option ℕ) (found : Option Found) → IsFoundNext (Finds e.program) s last found → IsFoundNext (EngineFinds e) s last found
  comes_next s last found next = by_engine e first (λ finding. IsFoundNext finding s last found) next

-- ---- offsets in slots

pub whole_fits : (p : ByteProgram) (utf8_empty : Bool) (i : InputState) (found : Found) → length i.cursor.content < 2 ^ 63 → IsFound (Finds p) (search_of utf8_empty i) (Some found) → (found.span.start < 2 ^ 63) × (found.span.end < 2 ^ 63)
whole_fits p utf8_empty i found bound is = by is.0 is.1 is.2
  where
    by : (out : Option (Outcome Notes)) → Finds p (search_of utf8_empty i) out → Some found ≡ option_map match_of out → (found.span.start < 2 ^ 63) × (found.span.end < 2 ^ 63)
    by None finds e = absurd (cc e)
    by (Some t) finds e =
        let same : found ≡ match_of t = same_Some found (match_of t) e in
        let start : found.span.start ≡ start_of t = ap (λ (f : Found). f.span.start) same in
        let end : found.span.end ≡ end_of t = ap (λ (f : Found). f.span.end) same in
        let lies = inside_law p (search_of utf8_empty i) t finds in
        let within : end_of t ≤ length i.cursor.content = lies.inside.4 in
        (omega (arith, bound, start, within, lies.ordered), omega (arith, bound, end, within))

-- ---- halves that are reported

module _ (e : Engine) (first : IsFirst e) (i : InputState) (part : Part) (k : ℕ) (is : IsPart e.program (search_of e.utf8_empty i) part) (known : part.pattern ≡ Some k) where
  ends_there : FindsUpTo e.program (within (search_of e.utf8_empty i) part.span) k part.span.end
  ends_there = subst (λ o. IfSome o (λ j. FindsUpTo e.program (within (search_of e.utf8_empty i) part.span) j part.span.end)) known is.match

  found_whole : Finds e.program (search_of e.utf8_empty i) (Some ends_there.found)
  found_whole = is.holds.finds (Some ends_there.found) ends_there.finds

  -- the match that ends where a part does
  pub part_told : TellsHalf e i (Some (record { pattern = k; offset = part.span.end }))
  part_told =
      let finds : EngineFinds e (search_of e.utf8_empty i) (Some ends_there.found) = by_engine e first (λ finding. finding (search_of e.utf8_empty i) (Some ends_there.found)) found_whole in
      record {
        found = Some (match_of ends_there.found);
        tells = record { whether = (Some ends_there.found, finds, (λ told. told, λ told. told)); exact = λ any. (Some ends_there.found, finds, refl) };
        half_is = ap₂ (λ j x. Some (record { pattern = j; offset = x })) (sym ends_there.pattern_is) (sym ends_there.end_is);
      }

  pub part_ends_inside : InsideLaw → length i.cursor.content < 2 ^ 63 → EndsInside i part.span.end
  part_ends_inside inside bound =
      let lies = inside is_in is_word_char (character_program e.program) (search_of e.utf8_empty i) ends_there.found found_whole in
      record {
        behind_start = omega (arith, ends_there.end_is, lies.found.possible.0.2, lies.found.ordered);
        before_end = omega (arith, ends_there.end_is, lies.found.inside.3);
        fits = omega (arith, ends_there.end_is, lies.found.inside.4, bound);
      }

-- and a literal that is one
pub literal_half : (e : Engine) → IsFirst e → (i : InputState) (span : Span) (half : HalfFound) → half.pattern ≡ 0 → half.offset ≡ span.end → FindsLiteral (character_program e.program) is_word_char (search_of e.utf8_empty i) span → TellsHalf e i (Some half)
literal_half e first i span half pattern offset literal =
    let found : Found = record { pattern = 0; span = span } in
    record {
      found = Some found;
      tells = literal_told e first (search_of e.utf8_empty i) i.asked.earliest span found refl refl literal;
      half_is = ap₂ (λ j x. Some (record { pattern = j; offset = x })) pattern offset;
    }
