-- The match that a search finds, from the offsets that its walk noted.
use Rattle.std.proofs.Common.{◌≡◌, ℕ, zero, suc, ◌+◌, ◌*◌, ◌<◌, ◌≤◌, true, cond, [], ◌∷◌, length, Option, Some, None, option_map, unwrap_or, refl, sym, ap, ap₂, subst, ◌∙◌, arith}
use Rattle.std.specs.Prelude.{◌==◌}
use Rattle.std.specs.Option.{ForSome, option_and_then}
use Rattle.std.proofs.lemmas.Bool.{lt-ltb, ne_eqb}
use Rattle.std.proofs.lemmas.Option.{none-some}
use Rattle.unicode.specs.Perl.{is_word_char}
use Rattle.rx_utf8.specs.Automata.{is_in}
use Rattle.rx_util.specs.declared.search.Span.{Span}
use Rattle.rx_util.specs.Search.{Found}
use Rattle.rx_util.specs.Groups.{GroupNames, group_len}
use Rattle.rx_util.specs.Captured.{Captured, place_in, span_between, group_span, match_found}
use Rattle.rx_walks.specs.Machines.{Outcome}
use Rattle.rx_walks.specs.Programs.{Notes, fresh_notes, slot_of}
use Rattle.rx_walks.specs.Finds.{Search, PatternMatch, IsFindAll, greatest}
use Rattle.rx_walks.specs.Iterating.{Finding}
use Rattle.rx_walks.specs.ProgramFinds.{IfStarts, ProgramFindsAll, machine_of, start_node, start_of, end_of}
use Rattle.rx_util.specs.declared.search.MatchKind.{MatchKind}
use Rattle.rx_util.specs.declared.search.MatchKind.TheVariants.{LeftmostFirst, All}
use Rattle.rx_program.specs.Laws.{HasNotedOwn, NotesOwnPlaces}
use Rattle.rx_program.proofs.SeveralLaws.{programs_note_their_places}
use Rattle.rx_engine.proofs.CountLaws.{as_many}
use Rattle.rx_program.specs.Programs.{character_program}
use Rattle.rx_steps.specs.Threads.{Slots}
use Rattle.rx_steps.specs.Searching.{answer_slots, slots_from}
use Rattle.rx_chunk.specs.Engines.{Engine, EngineFinds, FindsOfKind, IsAnswer, IsEngine, match_of, IsFound, end_noted, noted_whole, start_noted, whole_span}
use Rattle.rx_chunk.specs.Iterating.{captured_by}
use Rattle.rx_chunk.proofs.EngineLaws.{pattern_in}
use Rattle.rx_chunk.proofs.KindLaws.{InsideLaw, is_best}

pub some_out : (out : Option (Outcome Notes)) (k : ℕ) → pattern_in out ≡ Some k → (t : Outcome Notes) × (out ≡ Some t) × (t.pattern ≡ k)
some_out None k is = absurd (none-some k is)
some_out (Some t) k is = (t, refl, ap (λ o. unwrap_or o 0) is)

abbrev pub span_of : Outcome Notes → Span
span_of t = record { start = start_of t; end = end_of t }

-- a find of an engine has noted its offsets, and is of one of its patterns
abbrev pub NotesPlaces : Engine → Type 0
NotesPlaces e = (s : Search) (t : Outcome Notes) → EngineFinds e s (Some t) → HasNotedOwn (start_of t) t × (t.pattern < length e.groups)

-- so has a match whose whole match is noted
pub whole_noted : (a : PatternMatch) → HasNotedOwn a.start (noted_whole a)
whole_noted a = record {
  start = ap₂ (λ b c. cond b (Some a.end) (cond c (Some a.start) None)) (ne_eqb (2 * a.pattern) (2 * a.pattern + 1) (λ e. omega (arith, e))) (same_place (2 * a.pattern));
  end = ap (λ b. cond b (Some a.end) (cond (2 * a.pattern + 1 == 2 * a.pattern) (Some a.start) None)) (same_place (2 * a.pattern + 1));
}
  where
    same_place : (k : ℕ) → (k == k) ≡ true
    same_place k = grind (arith)

module _ (e : Engine) (of_trees : IsEngine e) where
  all_notes : (s : Search) → NotesOwnPlaces is_word_char (character_program e.program) s
  all_notes s = programs_note_their_places of_trees.0 e.program.line_terminator of_trees.1.well_formed is_word_char (character_program e.program) s of_trees.1.program

  -- the best of all matches is of one of the patterns
  pub best_known : (s : Search) (a : PatternMatch) → ProgramFindsAll is_in is_word_char (character_program e.program) s (Some a) → a.pattern < length e.program.patterns
  best_known s a finds = by_start (start_node (character_program e.program) s.anchoring) refl finds
    where
      by_best : (q : ℕ) (out : Option PatternMatch) → out ≡ Some a → start_node (character_program e.program) s.anchoring ≡ Some q → IsFindAll (machine_of is_in is_word_char (character_program e.program) s) fresh_notes s q out → a.pattern < length e.program.patterns
      by_best q None none starts best = absurd (none-some a none)
      by_best q (Some b) same starts (greatest counts best) =
          let r = counts.reaches in
          let known = ((all_notes s).walks q b.start r.choices r.outcome starts r.walk).1.known in
          let pattern : b.pattern ≡ a.pattern = ap (λ o. unwrap_or (option_map (λ (x : PatternMatch). x.pattern) o) 0) same in
          omega (arith, known, r.pattern_is, pattern)

      by_start : (o : Option ℕ) → start_node (character_program e.program) s.anchoring ≡ o → IfStarts o (IsFindAll (machine_of is_in is_word_char (character_program e.program) s) fresh_notes s) (Some a) → a.pattern < length e.program.patterns
      by_start None starts none = absurd (none-some a (sym none))
      by_start (Some q) starts best = by_best q (Some a) refl starts best

  kind_notes : (kind : MatchKind) (s : Search) (t : Outcome Notes) → FindsOfKind kind e.program s (Some t) → HasNotedOwn (start_of t) t × (t.pattern < length e.groups)
  kind_notes LeftmostFirst s t finds =
      let notes = (all_notes s).finds t finds in
      (notes.0, omega (arith, notes.1.known, as_many e of_trees))
  kind_notes All s t finds =
      let best = is_best e.program s t finds in
      let known = best_known s best.best best.finds in
      subst (λ (x : Outcome Notes). HasNotedOwn (start_of x) x × (x.pattern < length e.groups)) (sym best.is)
      (whole_noted best.best, omega (arith, known, as_many e of_trees))

pub notes_places : (e : Engine) → IsEngine e → NotesPlaces e
notes_places e of_trees s t finds = kind_notes e of_trees e.match_kind s t finds

-- an offset that a walk noted, in its slot
pub slot_told : (first len k : ℕ) (n : Notes) → k < len → place_in (slots_from first len n) k ≡ slot_of n (first + k)
slot_told first zero k n lt = absurd (omega (arith, lt))
slot_told first (suc len) zero n lt = let same : first ≡ first + 0 = omega arith in ap (slot_of n) same
slot_told first (suc len) (suc k) n lt = let same : suc first + k ≡ first + suc k = omega arith in slot_told (suc first) len k n (omega (arith, lt)) ∙ ap (slot_of n) same

-- a find, and that its offsets are in the slots of its pattern's group 0
pub record IsNoted (finding : Finding) (s : Search) (k : ℕ) (slots : Slots) : Type 0 where
  pub outcome : Outcome Notes
  pub finds : finding s (Some outcome)
  pub pattern : outcome.pattern ≡ k
  pub span : whole_span k slots ≡ Some (span_of outcome)

-- these slots of a match that has noted its offsets
pub two_places : (t : Outcome Notes) (n : ℕ) (slots : Slots) → 2 * t.pattern + 1 < n → slots ≡ answer_slots n (Some t) → HasNotedOwn (start_of t) t
    → (start_noted t.pattern slots ≡ Some (start_of t)) × (end_noted t.pattern slots ≡ Some (end_of t))
two_places t n slots room are noted =
    let first : 0 + 2 * t.pattern ≡ 2 * t.pattern = omega arith in
    let second : 0 + (2 * t.pattern + 1) ≡ 2 * t.pattern + 1 = omega arith in (
      ap (λ xs. place_in xs (2 * t.pattern)) are ∙ slot_told 0 n (2 * t.pattern) t.notes (omega (arith, room)) ∙ ap (slot_of t.notes) first ∙ noted.start,
      ap (λ xs. place_in xs (2 * t.pattern + 1)) are ∙ slot_told 0 n (2 * t.pattern + 1) t.notes room ∙ ap (slot_of t.notes) second ∙ noted.end,
    )

two_slots : (t : Outcome Notes) (n : ℕ) (slots : Slots) → 2 * t.pattern + 1 < n → slots ≡ answer_slots n (Some t) → HasNotedOwn (start_of t) t → whole_span t.pattern slots ≡ Some (span_of t)
two_slots t n slots room are noted = let places = two_places t n slots room are noted in ap₂ (λ i j. span_between i j) places.0 places.1

pub is_noted : (e : Engine) (s : Search) (pattern : Option ℕ) (slots : Slots) (k : ℕ) → NotesPlaces e → 2 * length e.groups ≤ length slots → IsAnswer (EngineFinds e) s pattern slots → pattern ≡ Some k
    → IsNoted (EngineFinds e) s k slots
is_noted e s pattern slots k notes room answer is =
    let out = some_out answer.found k (sym answer.pattern_is ∙ is) in
    let t = out.0 in
    let finds : EngineFinds e s (Some t) = subst (λ o. EngineFinds e s o) out.1 answer.finds in
    let slots_are : slots ≡ answer_slots (length slots) (Some t) = answer.slots_are ∙ ap (λ o. answer_slots (length slots) o) out.1 in
    let noted = notes s t finds in
    let there : 2 * t.pattern + 1 < length slots = omega (arith, noted.1, room) in
    record { outcome = t; finds = finds; pattern = out.2; span = subst (λ j. whole_span j slots ≡ Some (span_of t)) out.2 (two_slots t (length slots) slots there slots_are noted.0) }

pub noted_in_order : (finding : Finding) (s : Search) (k : ℕ) (slots : Slots) → InsideLaw finding → IsNoted finding s k slots
    → ForSome (whole_span k slots) (λ (x : Span). x.start ≤ x.end)
noted_in_order finding s k slots law noted = λ x is.
    let ordered : start_of noted.outcome ≤ end_of noted.outcome = (law s noted.outcome noted.finds).ordered in
    let same : span_of noted.outcome ≡ x = ap (λ o. unwrap_or o x) (sym noted.span ∙ is) in
    subst (λ (y : Span). y.start ≤ y.end) same ordered

abbrev pub match_with : ℕ → Span → Found
match_with k span = record { pattern = k; span = span }

pub noted_found : (finding : Finding) (s : Search) (k : ℕ) (slots : Slots) (result : Option Found) → IsNoted finding s k slots
    → result ≡ option_map (match_with k) (whole_span k slots) → IsFound finding s result
noted_found finding s k slots result noted is =
    let found : result ≡ Some (match_of noted.outcome) =
    is ∙ ap (λ o. option_map (match_with k) o) noted.span ∙ ap (λ j. Some (match_with j (span_of noted.outcome))) (sym noted.pattern) in
    (Some noted.outcome, noted.finds, found)

-- ---- the same in captures

-- a pattern has groups
groups_there : (groups : GroupNames) (k : ℕ) → k < length groups → 0 < group_len groups k
groups_there [] k lt = absurd (omega (arith, lt))
groups_there (names ∷ groups) zero lt = omega arith
groups_there (names ∷ groups) (suc k) lt = groups_there groups k (omega (arith, lt))

-- group 0 of a pattern
group_zero : (groups : GroupNames) (k : ℕ) (slots : Slots) → k < length groups → group_span (record { groups = groups; pattern = Some k; slots = slots }) 0 ≡ whole_span k slots
group_zero groups k slots known =
    ap (λ b. option_and_then (λ slot. span_between (place_in slots slot) (place_in slots (slot + 1))) (cond b (Some (2 * k)) None)) (lt-ltb 0 (group_len groups k) (groups_there groups k known))

-- the whole match in captures of the engine, after a search wrote its result into them
pub record AreNoted (finding : Finding) (s : Search) (caps : Captured) : Type 0 where
  pub out : Option (Outcome Notes)
  pub finds : finding s out
  pub noted : caps ≡ captured_by caps.groups (length caps.slots) out
  pub match_is : match_found caps ≡ option_map match_of out
  pub ordered : ForSome (group_span caps 0) (λ (x : Span). x.start ≤ x.end)

-- captures have a match, or nothing, and return it
pub record IsCaptured (caps : Captured) (out : Option (Outcome Notes)) : Type 0 where
  pub noted : caps ≡ captured_by caps.groups (length caps.slots) out
  pub match_is : match_found caps ≡ option_map match_of out
  pub ordered : ForSome (group_span caps 0) (λ (x : Span). x.start ≤ x.end)

abbrev pub captured : GroupNames → Option ℕ → Slots → Captured
captured groups pattern slots = record { groups = groups; pattern = pattern; slots = slots }

pub captured_is : (e : Engine) (groups : GroupNames) (slots : Slots) (out : Option (Outcome Notes)) → groups ≡ e.groups → 2 * length e.groups ≤ length slots → slots ≡ answer_slots (length slots) out
    → ((t : Outcome Notes) → out ≡ Some t → HasNotedOwn (start_of t) t × (t.pattern < length e.groups) × (start_of t ≤ end_of t)) → IsCaptured (captured groups (pattern_in out) slots) out
captured_is e groups slots None same room slots_are has = record {
  noted = ap (λ xs. captured groups None xs) slots_are;
  match_is = refl;
  ordered = λ x is. absurd (none-some x is);
}
captured_is e groups slots (Some t) same room slots_are has =
    let noted = has t refl in
    let there : 2 * t.pattern + 1 < length slots = omega (arith, noted.1, room) in
    let known : t.pattern < length groups = omega (arith, noted.1, ap length same) in
    let span : group_span (captured groups (Some t.pattern) slots) 0 ≡ Some (span_of t) = group_zero groups t.pattern slots known ∙ two_slots t (length slots) slots there slots_are noted.0 in
    record {
      noted = ap (λ xs. captured groups (Some t.pattern) xs) slots_are;
      match_is = ap (λ o. option_map (match_with t.pattern) o) span;
      ordered = subst (λ o. ForSome o (λ (x : Span). x.start ≤ x.end)) (sym span) (λ x is. subst (λ (y : Span). y.start ≤ y.end) (ap (λ o. unwrap_or o x) is) noted.2);
    }

noted_by : (e : Engine) (s : Search) → NotesPlaces e → InsideLaw (EngineFinds e) → (t : Outcome Notes) → EngineFinds e s (Some t) → HasNotedOwn (start_of t) t × (t.pattern < length e.groups) × (start_of t ≤ end_of t)
noted_by e s notes inside t finds =
    let places = notes s t finds in
    (places.0, places.1, (inside s t finds).ordered)

pub are_noted : (e : Engine) (s : Search) (caps : Captured) → NotesPlaces e → InsideLaw (EngineFinds e) → caps.groups ≡ e.groups → 2 * length e.groups ≤ length caps.slots
    → IsAnswer (EngineFinds e) s caps.pattern caps.slots → AreNoted (EngineFinds e) s caps
are_noted e s caps notes inside same room answer =
    let is : IsCaptured (captured caps.groups (pattern_in answer.found) caps.slots) answer.found =
    captured_is e caps.groups caps.slots answer.found same room answer.slots_are
    (λ t out_is. noted_by e s notes inside t (subst (λ o. EngineFinds e s o) out_is answer.finds)) in
    let are : IsCaptured caps answer.found = subst (λ pattern. IsCaptured (captured caps.groups pattern caps.slots) answer.found) (sym answer.pattern_is) is in
    record { out = answer.found; finds = answer.finds; noted = are.noted; match_is = are.match_is; ordered = are.ordered }
