-- One offset of a search, and its end.
use Rattle.std.proofs.Common.{◌≡◌, ℕ, ◌+◌, ◌≤◌, Bool, true, false, IsTrue, List, [], ◌∷◌, ◌++◌, Option, Some, None, option_map, refl, sym, ap, subst, ◌∙◌, arith}
use Rattle.std.specs.Prelude.{◌↔◌}
use Rattle.std.proofs.lemmas.List.{append-nil}
use Rattle.std.specs.Str.{IsCharBoundary}
use Rattle.unicode.specs.Perl.{is_word_char}
use Rattle.rx_util.specs.Search.{HalfFound}
use Rattle.rx_utf8.specs.Automata.{is_in}
use Rattle.rx_walks.specs.Finds.{Search, IsInside, is_anchored}
use Rattle.rx_walks.specs.Laws.{MayBegin, OneByteTells, FirstCharacterStands, LastCharacterStands}
use Rattle.rx_walks.specs.Machines.{Outcome}
use Rattle.rx_walks.specs.Programs.{Notes}
use Rattle.rx_walks.specs.ProgramFinds.{start_node, lowest, highest, before_in, after_in}
use Rattle.rx_walks.specs.Likenesses.{noted_by}
use Rattle.rx_walks.specs.Steps.{Steps, Thins, thin_end, kept, left_out, Searches, over, started, stepped, either}
use Rattle.rx_program.specs.Programs.{ByteProgram, IsByteProgram, character_program, automata_of}
use Rattle.rx_steps.specs.declared.asked.AskedLooks.{AskedLooks}
use Rattle.rx_steps.specs.declared.place.Place.{Place}
use Rattle.rx_steps.specs.Threads.{Slots, Thread, note_slot}
use Rattle.rx_steps.specs.Lists.{IsPlace, is_among, met_at}
use Rattle.rx_steps.specs.Searching.{haystack_in}
use Rattle.rx_steps.specs.Alike.{AreReadAlike, AreBare, StepsAreAlike, StepsEnd}
use Rattle.rx_steps.specs.Coming.{HasCome, machine_in}
use Rattle.rx_steps.proofs.AnswerLaws.{KeepingLaw}
use Rattle.rx_steps.proofs.ByteLaws.{within_is}
use Rattle.rx_dfa.specs.declared.states.Ahead.{Ahead}
use Rattle.rx_dfa.specs.declared.states.Starting.{Starting}
use Rattle.rx_dfa.specs.declared.states.Starting.TheVariants.{Never, Once, Always}
use Rattle.rx_dfa.specs.declared.states.AutomatonState.{AutomatonState}
use Rattle.rx_dfa.specs.Behind.{looks_of, quits}
use Rattle.rx_dfa.specs.Directions.{forward}
use Rattle.rx_dfa.specs.States as states
use Rattle.rx_dfa.specs.States.{start_at, starting_after, place_of_step, IsStep}
use Rattle.rx_dfa.specs.Searching.{AreAskedBy, half_outcome, met_after, StartsSo, HasReached, byte_after, IsBehind, IsAhead, IsHalfAnswer}
use Rattle.rx_dfa.proofs.LookLaws.{looks_told}
use Rattle.rx_dfa.proofs.StepLaws.{bare_started}

-- the laws of the crates below
pub record Laws : Type 0 where
  pub alike : (p : ByteProgram) → StepsAreAlike p
  pub end : (p : ByteProgram) → StepsEnd p
  pub one_byte : OneByteTells
  pub first : FirstCharacterStands
  pub last : LastCharacterStands

abbrev pub May : Search → ℕ → Type 0
May s i = IsTrue s.utf8_empty → IsCharBoundary s.content i

-- ---- the step at an offset

same_read : (p : ByteProgram) (o : Option ℕ) → AreReadAlike p o o
same_read p None = tt
same_read p (Some b) = λ q t. refl

abbrev place_at : ByteProgram → ℕ → AutomatonState → Ahead → Place
place_at p i x ahead = record { at = i; byte = ahead.read; looks = looks_of p.line_terminator x.behind ahead.seen }

stands : Laws → (p : ByteProgram) (asked : AskedLooks) (s : Search) (i : ℕ) (x : AutomatonState) (ahead : Ahead) → AreAskedBy p.states asked → IsInside s i → IsBehind p asked s i x → IsAhead p asked s i ahead
    → IsPlace p.states (haystack_in p.line_terminator s) i (place_at p i x ahead)
stands laws p asked s i x ahead are inside behind here = record {
  at = refl;
  inside = within_is (lowest s) (highest s) i (omega (arith, inside.0, inside.2)) (omega (arith, inside.1, inside.3, inside.4));
  byte = here.read;
  looks = λ l asks.
      looks_told laws.one_byte laws.first laws.last p.states asked p.line_terminator l (before_in s i) (after_in s i) are asks behind.told (subst (λ o. quits asked o ≡ false) (sym here.seen) here.told)
      ∙ ap (λ b. is_among (looks_of p.line_terminator b (byte_after s i)) l) (sym behind.is)
      ∙ ap (λ o. is_among (looks_of p.line_terminator x.behind o) l) here.seen;
}

steps_here : Laws → (p : ByteProgram) (asked : AskedLooks) (s : Search) (i : ℕ) (x y : AutomatonState) (ahead : Ahead) (step : IsStep (forward p) asked x ahead y) → AreAskedBy p.states asked → AreBare x.threads.threads → IsInside s i → IsBehind p asked s i x → IsAhead p asked s i ahead
    → Steps (machine_in p s) i [] (x.threads.threads ++ states.started (start_at x.starting ahead.may_begin)) step.next (met_at i y.ended [])
steps_here laws p asked s i x y ahead step are bare inside behind here =
    laws.alike p (place_of_step (forward p) x ahead) (place_at p i x ahead) (x.threads.threads ++ states.started (start_at x.starting ahead.may_begin)) step.next y.ended step.slots
    (bare_started x (start_at x.starting ahead.may_begin) bare) (record { reads = same_read p ahead.read; looks = λ l asks. refl }) step.list (haystack_in p.line_terminator s) i (stands laws p asked s i x ahead are inside behind here)

-- ---- the progress of a search

met_is : (i : ℕ) (ended : Option ℕ) (met : Option HalfFound) → either (met_at i ended []) (option_map half_outcome met) ≡ option_map half_outcome (met_after i ended met)
met_is i None met = refl
met_is i (Some k) met = refl

none_is : (met : Option HalfFound) → option_map half_outcome met ≡ None → met ≡ None
none_is None e = refl
none_is (Some f) e = absurd (cc e)

-- no walk starts at the offset
come_without : (p : ByteProgram) (s : Search) (q i : ℕ) (live next thin : List Thread) (ended : Option ℕ) (met : Option HalfFound) → (met ≡ None → MayBegin s i → ⊥) → Steps (machine_in p s) i [] live next (met_at i ended []) → Thins [] next thin
    → HasCome (machine_in p s) s q [] i live (option_map half_outcome met) → HasCome (machine_in p s) s q [] (i + 1) thin (option_map half_outcome (met_after i ended met))
come_without p s q i live next thin ended met never steps thins come =
    let m = machine_in p s in
    subst (λ o. HasCome m s q [] (i + 1) thin o) (met_is i ended met) (λ out rest. come out (stepped (λ e begins. never (none_is met e) begins) steps thins rest))

-- one starts after the others
come_with : (p : ByteProgram) (s : Search) (q i : ℕ) (live next thin : List Thread) (ended : Option ℕ) (met : Option HalfFound) → met ≡ None → MayBegin s i → Steps (machine_in p s) i [] (live ++ ([], (q, 0)) ∷ []) next (met_at i ended []) → Thins [] next thin
    → HasCome (machine_in p s) s q [] i live (option_map half_outcome met) → HasCome (machine_in p s) s q [] (i + 1) thin (option_map half_outcome (met_after i ended met))
come_with p s q i live next thin ended (Some f) unmet begins steps thins come = absurd (cc unmet)
come_with p s q i live next thin None None unmet begins steps thins come = λ out rest. come out (started begins steps thins rest)
come_with p s q i live next thin (Some k) None unmet begins steps thins come = λ out rest. come out (started begins steps thins rest)

no_more : (i : ℕ) (ended : Option ℕ) (met : Option HalfFound) → met_after i ended met ≡ None → (met ≡ None) × (ended ≡ None)
no_more i None met e = (e, refl)
no_more i (Some k) met e = absurd (cc e)

starts_on : (s : Search) (q i : ℕ) (starting : Starting) (ended : Option ℕ) (met : Option HalfFound) → StartsSo s q i starting met → StartsSo s q (i + 1) (starting_after starting ended) (met_after i ended met)
starts_on s q i Never ended met so = λ e j from begins. so (no_more i ended met e).0 j (omega (arith, from)) begins
starts_on s q i (Once r) ended met so = λ e j from begins. omega (arith, from, begins.0.1 so.2, so.3)
starts_on s q i (Always r) None met so = so
starts_on s q i (Always r) (Some k) met so = λ e j from begins. absurd (cc e)

no_truth : (b : Bool) → IsTrue b → b ≡ false → ⊥
no_truth b is e = let told : b ≡ true = is in absurd (cc (sym told ∙ e))

can_begin : (s : Search) (i : ℕ) (may : Bool) → (IsTrue may ↔ May s i) → may ≡ true → May s i
can_begin s i may told e = told.0 e

cannot_begin : (s : Search) (i : ℕ) (may : Bool) → (IsTrue may ↔ May s i) → may ≡ false → May s i → ⊥
cannot_begin s i may told e can = no_truth may (told.1 can) e

-- The step of a state advances the search by one offset.
pub place_passed : Laws → (p : ByteProgram) (asked : AskedLooks) (s : Search) (q i : ℕ) (x y : AutomatonState) (ahead : Ahead) (met : Option HalfFound) → AreAskedBy p.states asked → AreBare x.threads.threads → IsInside s i → IsBehind p asked s i x
    → IsAhead p asked s i ahead → IsStep (forward p) asked x ahead y → HasReached p s q i x met → HasReached p s q (i + 1) y (met_after i y.ended met)
place_passed laws p asked s q i x y ahead met are bare inside behind here step reached = record {
  come = by x.starting ahead.may_begin (can_begin s i ahead.may_begin here.may_begin) (cannot_begin s i ahead.may_begin here.may_begin) (steps_here laws p asked s i x y ahead step are bare inside behind here) reached.starts;
  starts = subst (λ z. StartsSo s q (i + 1) z (met_after i y.ended met)) (sym step.starting) (starts_on s q i x.starting y.ended met reached.starts);
}
  where
    live : List Thread
    live = x.threads.threads

    thin : List Thread
    thin = y.threads.threads

    next : List Thread
    next = step.next

    ended : Option ℕ
    ended = y.ended

    without : (met ≡ None → MayBegin s i → ⊥) → Steps (machine_in p s) i [] (live ++ []) next (met_at i ended []) → HasCome (machine_in p s) s q [] (i + 1) thin (option_map half_outcome (met_after i ended met))
    without never steps = come_without p s q i live next thin ended met never (subst (λ xs. Steps (machine_in p s) i [] xs next (met_at i ended [])) (append-nil live) steps) step.thins reached.come

    by : (z : Starting) (b : Bool) → (b ≡ true → May s i) → (b ≡ false → May s i → ⊥) → Steps (machine_in p s) i [] (live ++ states.started (start_at z b)) next (met_at i ended []) → StartsSo s q i z met
        → HasCome (machine_in p s) s q [] (i + 1) thin (option_map half_outcome (met_after i ended met))
    by Never b can cannot steps so = without (λ e begins. so e i (omega arith) begins) steps
    by (Once r) false can cannot steps so = without (λ e begins. cannot refl begins.1) steps
    by (Always r) false can cannot steps so = without (λ e begins. cannot refl begins.1) steps
    by (Once r) true can cannot steps so =
        let begins : MayBegin s i = ((inside, λ anchored. so.3), can refl) in
        come_with p s q i live next thin ended met so.1 begins (subst (λ k. Steps (machine_in p s) i [] (live ++ ([], (k, 0)) ∷ []) next (met_at i ended [])) so.0 steps) step.thins reached.come
    by (Always r) true can cannot steps so =
        let begins : MayBegin s i = ((inside, λ anchored. absurd (no_truth (is_anchored s.anchoring) anchored so.2)), can refl) in
        come_with p s q i live next thin ended met so.1 begins (subst (λ k. Steps (machine_in p s) i [] (live ++ ([], (k, 0)) ∷ []) next (met_at i ended [])) so.0 steps) step.thins reached.come

-- ---- the end

-- the result of a search without threads, in which none will start
search_over : (p : ByteProgram) (s : Search) (q i : ℕ) (live : List Thread) (met : Option HalfFound) → live ≡ [] → (met ≡ None → (j : ℕ) → i ≤ j → MayBegin s j → ⊥) → HasCome (machine_in p s) s q [] i live (option_map half_outcome met)
    → Searches (machine_in p s) (MayBegin s) (λ j. []) (q, 0) s.start [] None (option_map half_outcome met)
search_over p s q i live met none never come = subst (λ xs. HasCome (machine_in p s) s q [] i xs (option_map half_outcome met)) none come (option_map half_outcome met) (over (λ e j from begins. never (none_is met e) j from begins))

abbrev half_of : Outcome Slots → HalfFound
half_of t = record { pattern = t.pattern; offset = t.end }

same_half : (met : Option HalfFound) → option_map half_of (option_map half_outcome met) ≡ met
same_half None = refl
same_half (Some f) = refl

same_found : (found : Option (Outcome Notes)) → option_map half_of (option_map (noted_by (λ (n : Notes). [])) found) ≡ option_map (λ t. record { pattern = t.pattern; offset = t.end }) found
same_found None = refl
same_found (Some t) = refl

half_answer : (p : ByteProgram) (s : Search) (q : ℕ) (met : Option HalfFound) → IsByteProgram p → KeepingLaw → start_node (character_program p) s.anchoring ≡ Some q
    → Searches (machine_in p s) (MayBegin s) (λ j. []) (q, 0) s.start [] None (option_map half_outcome met) → IsHalfAnswer p s met
half_answer p s q met reads law starts searches =
    let on = law (record { put = note_slot; kept = λ n. []; alike = λ slot i n. refl }) is_in is_word_char (character_program p) (automata_of p) reads s q (option_map half_outcome met) starts searches in
    record {
      found = on.0;
      finds = on.2;
      met_is = sym (same_half met) ∙ ap (option_map half_of) (sym on.1) ∙ same_found on.0;
    }

-- the state is dead
pub over_answers : (p : ByteProgram) (s : Search) (q i : ℕ) (x : AutomatonState) (met : Option HalfFound) → IsByteProgram p → KeepingLaw → start_node (character_program p) s.anchoring ≡ Some q → x.threads.threads ≡ [] → x.starting ≡ Never → HasReached p s q i x met
    → IsHalfAnswer p s met
over_answers p s q i x met reads law starts none never reached =
    half_answer p s q met reads law starts (search_over p s q i x.threads.threads met none (subst (λ z. StartsSo s q i z met) never reached.starts) reached.come)

thin_gone : {seen : List (ℕ × ℕ)} {next thin : List Thread} → next ≡ [] → Thins seen next thin → thin ≡ []
thin_gone e thin_end = refl
thin_gone e (kept thins) = absurd (cc e)
thin_gone e (left_out c thins) = absurd (cc e)

-- the step at the highest offset reads nothing
pub end_answers : Laws → (p : ByteProgram) (asked : AskedLooks) (s : Search) (q i : ℕ) (x y : AutomatonState) (ahead : Ahead) (met : Option HalfFound) → IsByteProgram p → KeepingLaw → start_node (character_program p) s.anchoring ≡ Some q → AreAskedBy p.states asked
    → AreBare x.threads.threads → IsInside s i → i ≡ highest s → ahead.read ≡ None → IsBehind p asked s i x → IsAhead p asked s i ahead → IsStep (forward p) asked x ahead y → HasReached p s q i x met → IsHalfAnswer p s (met_after i y.ended met)
end_answers laws p asked s q i x y ahead met reads law starts are bare inside last none behind here step reached =
    let on = place_passed laws p asked s q i x y ahead met are bare inside behind here step reached in
    let gone : step.next ≡ [] = laws.end p (place_of_step (forward p) x ahead) (x.threads.threads ++ states.started (start_at x.starting ahead.may_begin)) step.next y.ended step.slots none step.list in
    half_answer p s q (met_after i y.ended met) reads law starts
    (search_over p s q (i + 1) y.threads.threads (met_after i y.ended met) (thin_gone gone step.thins)
    (λ e j from begins. let inside' = begins.0.0 in omega (arith, from, last, inside'.1, inside'.3, inside'.4)) on.come)
