-- The result in a part of a search's span, and what that means for the span.
use Rattle.std.proofs.Common.{◌≡◌, ℕ, zero, suc, ◌+◌, ◌<◌, ◌≤◌, ◌^◌, Bool, false, true, List, [], ◌∷◌, length, replicate, Option, Some, None, IfSome, SomeIff, is_some, cond, set, refl, sym, ap, ap₂, subst, ◌∙◌, arith}
use Rattle.std.proofs.lemmas.Bool.{ne_eqb}
use Rattle.std.proofs.lemmas.List.{length-replicate}
use Rattle.unicode.specs.Perl.{is_word_char}
use Rattle.rx_sets.specs.Sets.{Range}
use Rattle.rx_utf8.specs.Automata.{is_in}
use Rattle.rx_util.specs.declared.search.Span.{Span}
use Rattle.rx_util.specs.Captured.{Captured, nothing_noted}
use Rattle.rx_util.specs.Groups.{GroupNames}
use Rattle.rx_util.specs.Search.{Found}
use Rattle.rx_input.specs.Cursors.{IsSameContent}
use Rattle.rx_input.specs.Inputs.{Asked, InputState, IsSpan}
use Rattle.rx_input.specs.Searchers.{EndsInside}
use Rattle.rx_walks.specs.Looks as walks
use Rattle.rx_walks.specs.Programs.{Program, Notes, slot_of}
use Rattle.rx_walks.specs.Finds.{Search}
use Rattle.rx_walks.specs.Machines.{Outcome}
use Rattle.rx_walks.specs.Iterating.{Finding, nothing}
use Rattle.rx_util.specs.declared.search.MatchKind.TheVariants.{LeftmostFirst}
use Rattle.rx_walks.specs.Laws.{FindsAtMostOne, FindsExist, FindsLieInside, FindsStayInCutSpans}
use Rattle.rx_program.specs.Programs.{ByteProgram, character_program}
use Rattle.rx_steps.specs.Threads.{Slots}
use Rattle.rx_steps.specs.Searching.{anchoring_of, answer_slots, search_of, slots_from}
use Rattle.rx_literals.specs.Literals.{FindsLiteral, literal_match, within}
use Rattle.rx_engine.specs.Engines.{Engine}
use Rattle.rx_chunk.specs.Engines.{EngineFinds, Finds, IsAnswer, IsFound, TellsMatch, TellsSlots, TellsWhether}
use Rattle.rx_chunk.proofs.KindLaws.{finds_first}
use Rattle.rx_chunk.specs.Searches.{TellsWhole}
use Rattle.rx_chunk.specs.Iterating.{ComesNext, IsFoundNext, IsNextAnswer}
use Rattle.regex_cursor.specs.declared.engines.meta.left.Part.{Part}
use Rattle.regex_cursor.specs.Strategies.{FindsUpTo, HoldsFind, HoldsNext, IsPart, IsNextLeft}

-- the laws of rx_walks, in the form in which they are called
abbrev pub OneLaw : Type 0
OneLaw = (member : List Range → ℕ → Bool) (is_word : ℕ → Bool) (c : Program walks.Look (List Range)) → FindsAtMostOne member is_word c

abbrev pub ExistLaw : Type 0
ExistLaw = (member : List Range → ℕ → Bool) (is_word : ℕ → Bool) (c : Program walks.Look (List Range)) → FindsExist member is_word c

abbrev pub InsideLaw : Type 0
InsideLaw = (member : List Range → ℕ → Bool) (is_word : ℕ → Bool) (c : Program walks.Look (List Range)) → FindsLieInside member is_word c

abbrev pub CutLaw : Type 0
CutLaw = (member : List Range → ℕ → Bool) (is_word : ℕ → Bool) (c : Program walks.Look (List Range)) → FindsStayInCutSpans member is_word c

-- ---- engines for the leftmost match

-- all engines that these proofs are about: their results are those of their program
abbrev pub IsFirst : Engine → Type 0
IsFirst e = e.match_kind ≡ LeftmostFirst

-- the results of its program are its own
pub by_engine : (e : Engine) → IsFirst e → (P : Finding → Type 0) → P (Finds e.program) → P (EngineFinds e)
by_engine e first P told = subst P (finds_first e first) told

-- ---- the input

abbrev search_by : Bool → List ℕ → Asked → Search
search_by utf8_empty content asked = record {
  content = content;
  slice_start = asked.slice.start;
  slice_end = asked.slice.end;
  start = asked.span.start;
  end = asked.span.end;
  anchoring = anchoring_of asked.anchored;
  utf8_empty = utf8_empty;
}

abbrev cut_to : Span → Asked → Asked
cut_to span a = record a { span = span }

-- an input with the same request as another one, and whose span is limited
pub cut_asked : (i j k : InputState) (span : Span) → j.asked ≡ i.asked → k.asked ≡ record j.asked { span = span } → k.asked ≡ record i.asked { span = span }
cut_asked i j k span asked cut = cut ∙ ap (cut_to span) asked

pub cut_search : (utf8_empty : Bool) (i j k : InputState) (span : Span) → IsSameContent i.cursor j.cursor → j.asked ≡ i.asked → IsSameContent j.cursor k.cursor → k.asked ≡ record j.asked { span = span }
    → search_of utf8_empty k ≡ within (search_of utf8_empty i) span
cut_search utf8_empty i j k span same asked same' cut = ap₂ (search_by utf8_empty) (same'.content ∙ same.content) (cut_asked i j k span asked cut)

-- a match that ends in the limited span ends in the whole one
pub whole_inside : (i k : InputState) (span : Span) (at : ℕ) → k.asked ≡ record i.asked { span = span } → i.asked.span.start ≤ span.start → span.end ≤ i.asked.span.end → EndsInside k at → EndsInside i at
whole_inside i k span at asked from to ends = record {
  behind_start = omega (arith, ap (λ (a : Asked). a.span.start) asked, ends.behind_start, from);
  before_end = omega (arith, ap (λ (a : Asked). a.span.end) asked, ends.before_end, to);
  fits = ends.fits;
}

-- the span, a part of which was searched
pub whole_is_span : (p : ByteProgram) (utf8_empty : Bool) (i j : InputState) (part whole : Span) → HoldsFind p (search_of utf8_empty i) part → j.asked ≡ i.asked → whole ≡ j.asked.span → IsSpan whole
whole_is_span p utf8_empty i j part whole holds asked is =
    let same : whole ≡ i.asked.span = is ∙ ap (λ (a : Asked). a.span) asked in
    omega (arith, ap (λ (x : Span). x.start) same, ap (λ (x : Span). x.end) same, holds.behind, holds.ordered, holds.before)

-- ---- the match found

module _ (e : Engine) (first : IsFirst e) (s : Search) (part : Span) (holds : HoldsFind e.program s part) where
  finds_there : (out : Option (Outcome Notes)) → EngineFinds e (within s part) out → EngineFinds e s out
  finds_there = by_engine e first (λ finding. (out : Option (Outcome Notes)) → finding (within s part) out → finding s out) holds.finds

  pub whole_answer : (pattern : Option ℕ) (slots : Slots) → IsAnswer (EngineFinds e) (within s part) pattern slots → IsAnswer (EngineFinds e) s pattern slots
  whole_answer pattern slots answer = record { found = answer.found; finds = finds_there answer.found answer.finds; pattern_is = answer.pattern_is; slots_are = answer.slots_are }

  pub whole_found : (found : Option Found) → IsFound (EngineFinds e) (within s part) found → IsFound (EngineFinds e) s found
  whole_found found is = (is.0, finds_there is.0 is.1, is.2)

  pub whole_whether : (is_there : Bool) → TellsWhether (EngineFinds e) (within s part) is_there → TellsWhether (EngineFinds e) s is_there
  whole_whether is_there told = (told.0, finds_there told.0 told.1, told.2)

  -- the result for an input whose span is limited to the part is that for the whole one
  pub whole_match : (i k : InputState) (found : Option Found) → k.asked ≡ record i.asked { span = part }
      → search_of e.utf8_empty k ≡ within s part → TellsMatch k.asked.earliest (EngineFinds e) (search_of e.utf8_empty k) found → TellsMatch i.asked.earliest (EngineFinds e) s found
  whole_match i k found asked search tells =
      let told : TellsMatch i.asked.earliest (EngineFinds e) (within s part) found = subst (λ x. TellsMatch i.asked.earliest (EngineFinds e) x found) search (subst (λ (a : Asked). TellsMatch a.earliest (EngineFinds e) (search_of e.utf8_empty k) found) asked tells) in
      record { whether = whole_whether (is_some found) told.whether; exact = λ any. whole_found found (told.exact any) }

  pub whole_slots : (i k : InputState) (pattern : Option ℕ) (slots : Slots) → k.asked ≡ record i.asked { span = part }
      → search_of e.utf8_empty k ≡ within s part → TellsSlots k.asked.earliest (EngineFinds e) (search_of e.utf8_empty k) pattern slots → TellsSlots i.asked.earliest (EngineFinds e) s pattern slots
  whole_slots i k pattern slots asked search tells =
      let told : TellsSlots i.asked.earliest (EngineFinds e) (within s part) pattern slots = subst (λ x. TellsSlots i.asked.earliest (EngineFinds e) x pattern slots) search (subst (λ (a : Asked). TellsSlots a.earliest (EngineFinds e) (search_of e.utf8_empty k) pattern slots) asked tells) in
      record { whether = whole_whether (is_some pattern) told.whether; exact = λ any. whole_answer pattern slots (told.exact any); none = told.none }

-- ---- the next match

module _ (e : Engine) (first : IsFirst e) (s : Search) (last : Option ℕ) (part : Span) (next : HoldsNext e.program s last part) where
  comes_there : (out : Option (Outcome Notes)) → ComesNext (EngineFinds e) (within s part) last out → ComesNext (EngineFinds e) s last out
  comes_there = by_engine e first (λ finding. (out : Option (Outcome Notes)) → ComesNext finding (within s part) last out → ComesNext finding s last out) next.comes

  pub whole_next : (pattern : Option ℕ) (slots : Slots) → IsNextAnswer (EngineFinds e) (within s part) last pattern slots → IsNextAnswer (EngineFinds e) s last pattern slots
  whole_next pattern slots answer = record { out = answer.out; comes = comes_there answer.out answer.comes; pattern_is = answer.pattern_is; slots_are = answer.slots_are }

  pub whole_found_next : (found : Option Found) → IsFoundNext (EngineFinds e) (within s part) last found → IsFoundNext (EngineFinds e) s last found
  whole_found_next found is = (is.0, comes_there is.0 is.1, is.2)

-- the part that is left
pub next_there : (p : ByteProgram) (s : Search) (last : Option ℕ) (next : Option Part) (part : Part) → IsNextLeft p s last next → next ≡ Some part → HoldsNext p s last part.span
next_there p s last next part is there = subst (λ o. IsNextLeft p s last o) there is

-- ---- results

module _ (e : Engine) (first : IsFirst e) (s : Search) where
  -- nothing is found
  pub none_by : Finds e.program s None → EngineFinds e s None
  none_by finds = by_engine e first (λ finding. finding s None) finds

  -- there is no next match
  pub nothing_comes : (last : Option ℕ) (slots : Slots) (n : ℕ) → Finds e.program s None → slots ≡ replicate n None → IsNextAnswer (EngineFinds e) s last None slots
  nothing_comes last slots n finds is =
      let len : length slots ≡ n = ap (λ xs. length xs) is ∙ length-replicate n None in
      record { out = None; comes = nothing (none_by finds); pattern_is = refl; slots_are = is ∙ ap (λ k. replicate k None) (sym len) }

  pub none_found_next : (last : Option ℕ) → Finds e.program s None → IsFoundNext (EngineFinds e) s last None
  none_found_next last finds = (None, nothing (none_by finds), refl)

  pub none_there : Finds e.program s None → TellsWhether (EngineFinds e) s false
  none_there finds = (None, none_by finds, (λ told. told, λ told. told))

  pub no_match_told : (earliest : Bool) → Finds e.program s None → TellsMatch earliest (EngineFinds e) s None
  no_match_told earliest finds = record { whether = none_there finds; exact = λ any. (None, none_by finds, refl) }

  pub no_slots_told : (earliest : Bool) (slots : Slots) (n : ℕ) → Finds e.program s None → slots ≡ replicate n None → TellsSlots earliest (EngineFinds e) s None slots
  no_slots_told earliest slots n finds is =
      let len : length slots ≡ n = ap (λ xs. length xs) is ∙ length-replicate n None in
      let none : slots ≡ replicate (length slots) None = is ∙ ap (λ k. replicate k None) (sym len) in
      record { whether = none_there finds; exact = λ any. record { found = None; finds = none_by finds; pattern_is = refl; slots_are = none }; none = λ nothing_there. none }

  -- there is a match in a part
  pub match_there : (part : Part) → IsPart e.program s part → is_some part.pattern ≡ true → TellsWhether (EngineFinds e) s true
  match_there part is has = by part.pattern is.match has
    where
      by : (o : Option ℕ) → IfSome o (λ k. FindsUpTo e.program (within s part.span) k part.span.end) → is_some o ≡ true → TellsWhether (EngineFinds e) s true
      by None up none = absurd (cc none)
      by (Some k) up has = (Some up.found, by_engine e first (λ finding. finding s (Some up.found)) (is.holds.finds (Some up.found) up.finds), (λ told. told, λ told. told))

  -- ---- a literal

  pub literal_found : (span : Span) → FindsLiteral (character_program e.program) is_word_char s span → EngineFinds e s (Some (literal_match span))
  literal_found span literal = by_engine e first (λ finding. finding s (Some (literal_match span))) literal.finds

  pub literal_there : (span : Span) → FindsLiteral (character_program e.program) is_word_char s span → TellsWhether (EngineFinds e) s true
  literal_there span literal = (Some (literal_match span), literal_found span literal, (λ told. told, λ told. told))

  pub literal_told : (earliest : Bool) (span : Span) (found : Found) → found.pattern ≡ 0 → found.span ≡ span → FindsLiteral (character_program e.program) is_word_char s span → TellsMatch earliest (EngineFinds e) s (Some found)
  literal_told earliest span found pattern at literal = record {
    whether = literal_there span literal;
    exact = λ any. (Some (literal_match span), literal_found span literal, ap₂ (λ k (x : Span). Some (record { pattern = k; span = x })) pattern at);
  }

-- and captures in which nothing is noted have no match
pub nothing_whole : (e : Engine) → IsFirst e → (i : InputState) (caps : Captured) (groups : GroupNames) (n : ℕ) → Finds e.program (search_of e.utf8_empty i) None → caps ≡ nothing_noted groups n → TellsWhole e i caps
nothing_whole e first i caps groups n finds is =
    subst (λ (x : Captured). TellsWhole e i x) (sym is) (record {
      match = no_match_told e first (search_of e.utf8_empty i) i.asked.earliest finds;
      ordered = λ span some. absurd (cc some);
      inside = λ found some. absurd (cc some);
    })

pub slots_length : (first n : ℕ) (notes : Notes) → length (slots_from first n notes) ≡ n
slots_length first zero notes = refl
slots_length first (suc n) notes = ap suc (slots_length (suc first) n notes)

pub literal_slots_told : (e : Engine) → IsFirst e → (s : Search) (earliest : Bool) (span : Span) (slots : Slots) (n : ℕ) → slots ≡ answer_slots n (Some (literal_match span)) → FindsLiteral (character_program e.program) is_word_char s span
    → TellsSlots earliest (EngineFinds e) s (Some 0) slots
literal_slots_told e first s earliest span slots n is literal =
    let len : length slots ≡ n = ap (λ xs. length xs) is ∙ slots_length 0 n (literal_match span).notes in
    record {
      whether = literal_there e first s span literal;
      exact = λ any. record { found = Some (literal_match span); finds = literal_found e first s span literal; pattern_is = refl; slots_are = is ∙ ap (λ k. answer_slots k (Some (literal_match span))) (sym len) };
      none = λ nothing_there. absurd (cc nothing_there);
    }

-- its offsets fit slots
pub literal_fits : (p : ByteProgram) (utf8_empty : Bool) (i : InputState) (span : Span) → InsideLaw → length i.cursor.content < 2 ^ 63 → FindsLiteral (character_program p) is_word_char (search_of utf8_empty i) span
    → (span.start < 2 ^ 63) × (span.end < 2 ^ 63)
literal_fits p utf8_empty i span inside bound literal =
    let at = (inside is_in is_word_char (character_program p) (search_of utf8_empty i) (literal_match span) literal.finds).found.inside in
    let end : span.end ≤ length i.cursor.content = at.4 in
    (omega (arith, end, bound, literal.some), omega (arith, end, bound))

-- and it ends in the span
pub literal_inside : (p : ByteProgram) (utf8_empty : Bool) (i : InputState) (span : Span) (end : ℕ) → end ≡ span.end → InsideLaw → length i.cursor.content < 2 ^ 63 → FindsLiteral (character_program p) is_word_char (search_of utf8_empty i) span
    → EndsInside i end
literal_inside p utf8_empty i span end is inside bound literal =
    let lies = inside is_in is_word_char (character_program p) (search_of utf8_empty i) (literal_match span) literal.finds in
    let fits = literal_fits p utf8_empty i span inside bound literal in
    record {
      behind_start = omega (arith, is, lies.found.possible.0.2, literal.some);
      before_end = omega (arith, is, lies.found.inside.3);
      fits = omega (arith, is, fits.1);
    }

-- ---- the literal's match in slots

-- an offset that fits a slot
pub some_given : (o : Option ℕ) (place : ℕ) → place < 2 ^ 63 → SomeIff o (place + 1 < 2 ^ 64) place → o ≡ Some place
some_given None place low given = absurd (given (omega (arith, low)))
some_given (Some x) place low given = ap Some given.1

none_at : (slot start end : ℕ) → 2 ≤ slot → slot_of (record { start = start; noted = (1, end) ∷ (0, start) ∷ [] }) slot ≡ None
none_at slot start end above =
    ap₂ (λ b c. cond b (Some end) (cond c (Some start) None)) (ne_eqb slot 1 (λ e. omega (arith, e, above))) (ne_eqb slot 0 (λ e. omega (arith, e, above)))

none_further : (first n start end : ℕ) → 2 ≤ first → slots_from first n (record { start = start; noted = (1, end) ∷ (0, start) ∷ [] }) ≡ replicate n None
none_further first zero start end above = refl
none_further first (suc n) start end above = ap₂ (λ x xs. x ∷ xs) (none_at first start end above) (none_further (suc first) n start end (omega (arith, above)))

module _ (n : ℕ) (span : Span) (slots : Slots) (none : slots ≡ replicate n None) where
  abbrev Wanted : ℕ → Slots
  Wanted k = answer_slots k (Some (literal_match span))

  pub no_slot : n ≡ 0 → slots ≡ Wanted n
  no_slot is = none ∙ ap (λ k. replicate k None) is ∙ sym (ap Wanted is)

  pub one_slot : (a : Option ℕ) → n ≡ 1 → a ≡ Some span.start → set slots 0 a ≡ Wanted n
  one_slot a is start = ap₂ (λ xs b. set xs 0 b) (none ∙ ap (λ k. replicate k None) is) start ∙ sym (ap Wanted is)

pub two_slots : (n : ℕ) (span : Span) (slots : Slots) (a b : Option ℕ) → slots ≡ replicate n None → 2 ≤ n → a ≡ Some span.start → b ≡ Some span.end
    → set (set slots 0 a) 1 b ≡ answer_slots n (Some (literal_match span))
two_slots zero span slots a b none two start end = absurd (omega (arith, two))
two_slots (suc zero) span slots a b none two start end = absurd (omega (arith, two))
two_slots (suc (suc n)) span slots a b none two start end =
    ap (λ xs. set (set xs 0 a) 1 b) none
    ∙ ap₂ (λ x y. x ∷ y ∷ replicate n None) start end
    ∙ sym (ap (λ xs. Some span.start ∷ Some span.end ∷ xs) (none_further 2 n span.start span.end (omega arith)))
