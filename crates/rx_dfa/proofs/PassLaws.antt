-- Reading bytes.
use Rattle.std.proofs.Common.{◌≡◌, ℕ, zero, suc, ◌+◌, ◌*◌, ◌/◌, ◌<◌, true, false, not, ◌&&◌, ◌≤◌, List, [], ◌∷◌, ◌++◌, length, take, Option, Some, None, IsSome, slice_get, refl, sym, ap, subst, ◌∙◌, arith}
use Rattle.std.proofs.Math.Nat.{mul-div_cancel}
use Rattle.std.proofs.lemmas.List.{length-take}
use Rattle.std.proofs.lemmas.Option.{slice_get-get_or, get_or_from_slice_get, slice_get_within}
use Rattle.rx_util.specs.Search.{HalfFound}
use Rattle.rx_program.specs.Programs.{ByteProgram}
use Rattle.std.specs.Prelude.{◌==◌}
use Rattle.rx_steps.specs.declared.asked.AskedLooks.{AskedLooks}
use Rattle.rx_steps.specs.Alike.{AreBare}
use Rattle.rx_dfa.specs.declared.automaton.Automaton.{Automaton}
use Rattle.rx_dfa.specs.declared.scan.PassedEnd.{PassedEnd}
use Rattle.rx_dfa.specs.declared.states.AutomatonState.{AutomatonState}
use Rattle.rx_dfa.specs.Classes.{class_of, byte_of, AreAlikeBytes}
use Rattle.rx_dfa.specs.Behind.{quits}
use Rattle.rx_dfa.specs.Directions.{Directed}
use Rattle.rx_dfa.specs.States.{ahead_of, IsStateOf, IsStep}
use Rattle.rx_dfa.specs.Alphabets.{AlphabetView, TellsApart, ahead_at, ahead_in}
use Rattle.rx_dfa.specs.Caches.{CacheView, HoldsSteps, LeadsTo, IsEntry, unknown, quit, plain, ends, over}
use Rattle.rx_dfa.specs.Passing.{Passes, none, more, IsMetAt, IsNoted, TableRun, IsRunning, HasPassed}
use Rattle.rx_dfa.specs.Searching.{met_after}
use Rattle.rx_dfa.specs.Automata.{IsAutomaton, directed}
use Rattle.rx_dfa.proofs.StepLaws.{AlikeLaws, step_alike}
use Rattle.rx_dfa.proofs.TableLaws.{row_room}

-- ---- a step over the representative of a class

pub byte_in_class : (p : ByteProgram) (alphabet : AlphabetView) (b : ℕ) → TellsApart p alphabet → b < 256 → slice_get alphabet.classes.bytes (class_of alphabet.classes b) ≡ Some (byte_of alphabet.classes b)
byte_in_class p alphabet b made low = slice_get-get_or alphabet.classes.bytes (class_of alphabet.classes b) 0 (made.classes b low).has_class

pub column_inside : (p : Directed) (alphabet : AlphabetView) (cache : CacheView) (b : ℕ) → TellsApart p.bytes alphabet → HoldsSteps p alphabet cache → b < 256 → class_of alphabet.classes b < cache.width
column_inside p alphabet cache b made is low = omega (arith, (made.classes b low).has_class, is.width)

pub quits_alike : (p : ByteProgram) (asked : AskedLooks) (b c : ℕ) → AreAlikeBytes p asked b c → quits asked (Some b) ≡ quits asked (Some c)
quits_alike p asked b c alike = ap (λ l. asked.words && not l) alike.ascii

-- it is a step over the byte itself
leads_by : AlikeLaws → (p : Directed) (alphabet : AlphabetView) (states : List AutomatonState) (x : AutomatonState) (b number : ℕ) → TellsApart p.bytes alphabet → AreBare x.threads.threads → b < 256
    → LeadsTo p alphabet states x (ahead_in alphabet (class_of alphabet.classes b)) number → LeadsTo p alphabet states x (ahead_of alphabet.utf8_empty b) number
leads_by law p alphabet states x b number made bare low to =
    let r = byte_of alphabet.classes b in
    let alike = (made.classes b low).alike in
    let at = byte_in_class p.bytes alphabet b made low in
    record {
      next = to.next;
      stands = to.stands;
      step = step_alike law p alphabet.asked alphabet.utf8_empty x to.next r b made.asked bare alike (subst (λ o. IsStep p alphabet.asked x (ahead_at alphabet.utf8_empty (class_of alphabet.classes b == length alphabet.classes.bytes) o) to.next) at to.step);
      told = sym (quits_alike p.bytes alphabet.asked r b alike) ∙ subst (λ o. quits alphabet.asked (ahead_at alphabet.utf8_empty (class_of alphabet.classes b == length alphabet.classes.bytes) o).seen ≡ false) at to.told;
    }

-- before it a search must quit
pub quits_by : (p : ByteProgram) (alphabet : AlphabetView) (b : ℕ) → TellsApart p alphabet → b < 256 → quits alphabet.asked (ahead_in alphabet (class_of alphabet.classes b)).seen ≡ true → quits alphabet.asked (Some b) ≡ true
quits_by p alphabet b made low told =
    sym (quits_alike p alphabet.asked (byte_of alphabet.classes b) b (made.classes b low).alike) ∙ subst (λ o. quits alphabet.asked (ahead_at alphabet.utf8_empty (class_of alphabet.classes b == length alphabet.classes.bytes) o).seen ≡ true) (byte_in_class p alphabet b made low) told

pub one_passed : AlikeLaws → (a : Automaton) (states : List AutomatonState) (x : AutomatonState) (b at number : ℕ) (met met' : Option HalfFound) → IsAutomaton a → AreBare x.threads.threads → b < 256
    → LeadsTo (directed a) a.alphabet.now states x (ahead_in a.alphabet.now (class_of a.alphabet.now.classes b)) number → ((y : AutomatonState) → slice_get states number ≡ Some y → met' ≡ met_after at y.ended met) → HasPassed a states x (b ∷ []) at met number met'
unfolding leads_by
one_passed law a states x b at number met met' made bare low to noted =
    let itself = leads_by law (directed a) a.alphabet.now states x b number made bare low to in
    record {
      next = to.next;
      stands = to.stands;
      passes = subst (λ o. Passes a (b ∷ []) at x met to.next o) (sym (noted to.next to.stands)) (more bare itself.step itself.told none);
    }

-- ---- one more byte

pub passes_more : (a : Automaton) (bytes : List ℕ) (i b : ℕ) (x y z : AutomatonState) (met met' : Option HalfFound) → AreBare y.threads.threads → Passes a bytes i x met y met' → IsStep (directed a) a.alphabet.now.asked y (ahead_of a.alphabet.now.utf8_empty b) z → quits a.alphabet.now.asked (Some b) ≡ false
    → Passes a (bytes ++ b ∷ []) i x met z (met_after (i + length bytes) z.ended met')
passes_more a [] i b x y z met met' bare none step told =
    let here : i ≡ i + 0 = omega arith in
    subst (λ j. Passes a (b ∷ []) i x met z (met_after j z.ended met)) here (more bare step told none)
passes_more a (c ∷ bytes) i b x y z met met' bare (more {y = w} bare' first low rest) step told =
    let far : i + 1 + length bytes ≡ i + suc (length bytes) = omega arith in
    more bare' first low (subst (λ j. Passes a (bytes ++ b ∷ []) (i + 1) w (met_after i w.ended met) z (met_after j z.ended met')) far (passes_more a bytes (i + 1) b w y z (met_after i w.ended met) met' bare rest step told))

-- bytes after bytes
pub passes_both : (a : Automaton) (first second : List ℕ) (i : ℕ) (x y z : AutomatonState) (met met' met'' : Option HalfFound) → Passes a first i x met y met' → Passes a second (i + length first) y met' z met''
    → Passes a (first ++ second) i x met z met''
passes_both a [] second i x y z met met' met'' none rest =
    let here : i + 0 ≡ i = omega arith in
    subst (λ j. Passes a second j x met z met'') here rest
passes_both a (b ∷ first) second i x y z met met' met'' (more {y = w} bare step told on) rest =
    let far : i + suc (length first) ≡ i + 1 + length first = omega arith in
    more bare step told (passes_both a first second (i + 1) w y z (met_after i w.ended met) met' met'' on (subst (λ j. Passes a second j y met' z met'') far rest))

pub take_one : (bytes : List ℕ) (n b : ℕ) → slice_get bytes n ≡ Some b → take (n + 1) bytes ≡ take n bytes ++ b ∷ []
take_one bytes n b e =
    let more : suc n ≡ n + 1 = omega arith in
    ap (λ k. take k bytes) (sym more) ∙ one bytes n e
  where
    one : (bytes : List ℕ) (n : ℕ) → slice_get bytes n ≡ Some b → take (suc n) bytes ≡ take n bytes ++ b ∷ []
    one [] n e = absurd (cc e)
    one (c ∷ bytes) zero e = let same : Some c ≡ Some b = e in ap (λ x. x ∷ []) (cc same)
    one (c ∷ bytes) (suc n) e = ap (λ xs. c ∷ xs) (one bytes n e)

-- ---- a run through the table

abbrev pub run_of : AutomatonState → List ℕ → ℕ → Option HalfFound → ℕ → Option PassedEnd → TableRun
run_of x bytes i met row end = record { first = x; at = i; met = met; bytes = bytes; row = row; end = end }

pub run_begun : (a : Automaton) (cache : CacheView) (x : AutomatonState) (first : ℕ) (bytes : List ℕ) (i : ℕ) (met : Option HalfFound) → slice_get cache.states first ≡ Some x → IsRunning a cache (run_of x (take 0 bytes) i met (first * cache.width) None)
run_begun a cache x first bytes i met stands = record { number = first; next = x; last = met; row_is = refl; stands = stands; noted = refl; passes = none }

-- the index of an entry in the table
pub entry_inside : (a : Automaton) (cache : CacheView) (x : AutomatonState) (bytes : List ℕ) (i row b : ℕ) (met : Option HalfFound) (end : Option PassedEnd) → IsAutomaton a → HoldsSteps (directed a) a.alphabet.now cache → b < 256 → IsRunning a cache (run_of x bytes i met row end)
    → row + class_of a.alphabet.now.classes b < length cache.table
entry_inside a cache x bytes i row b met end made is low run =
    let inside = slice_get_within cache.states run.number run.next run.stands in
    omega (arith, run.row_is, row_room run.number cache.width (length cache.states) inside, column_inside (directed a) a.alphabet.now cache b made is low, is.rows)

run_leads : AlikeLaws → (a : Automaton) (cache : CacheView) (x : AutomatonState) (bytes : List ℕ) (n i row b number : ℕ) (met : Option HalfFound) (end : Option PassedEnd) → IsAutomaton a → HoldsSteps (directed a) a.alphabet.now cache
    → b < 256 → slice_get bytes n ≡ Some b → (run : IsRunning a cache (run_of x (take n bytes) i met row end)) → (to : LeadsTo (directed a) a.alphabet.now cache.states run.next (ahead_in a.alphabet.now (class_of a.alphabet.now.classes b)) number)
    → Passes a (take (n + 1) bytes) i x met to.next (met_after (i + n) to.next.ended run.last)
unfolding leads_by
run_leads law a cache x bytes n i row b number met end made is low at run to =
    let state : IsStateOf (directed a) run.next = subst (λ y. IsStateOf (directed a) y) (get_or_from_slice_get cache.states run.number run.next run.next run.stands) (is.states run.number run.next (slice_get_within cache.states run.number run.next run.stands)) in
    let len : length (take n bytes) ≡ n = omega (arith, length-take n bytes, slice_get_within bytes n b at) in
    let itself = leads_by law (directed a) a.alphabet.now cache.states run.next b number made state.bare low to in
    subst (λ xs. Passes a xs i x met to.next (met_after (i + n) to.next.ended run.last)) (sym (take_one bytes n b at))
    (subst (λ k. Passes a (take n bytes ++ b ∷ []) i x met to.next (met_after (i + k) to.next.ended run.last)) len
    (passes_more a (take n bytes) i b x run.next to.next met run.last state.bare run.passes itself.step itself.told))

run_entry : (a : Automaton) (cache : CacheView) (x : AutomatonState) (bytes : List ℕ) (n i row b entry : ℕ) (met : Option HalfFound) (end : Option PassedEnd) → IsAutomaton a → HoldsSteps (directed a) a.alphabet.now cache
    → b < 256 → slice_get cache.table (row + class_of a.alphabet.now.classes b) ≡ Some entry → (run : IsRunning a cache (run_of x (take n bytes) i met row end)) → IsEntry (directed a) a.alphabet.now cache.width cache.states run.next (ahead_in a.alphabet.now (class_of a.alphabet.now.classes b)) entry
run_entry a cache x bytes n i row b entry met end made is low stands run =
    is.entries run.number (class_of a.alphabet.now.classes b) entry run.next run.stands (column_inside (directed a) a.alphabet.now cache b made is low) (ap (λ r. slice_get cache.table (r + class_of a.alphabet.now.classes b)) (sym run.row_is) ∙ stands)

-- no match ends
pub run_on : AlikeLaws → (a : Automaton) (cache : CacheView) (x : AutomatonState) (bytes : List ℕ) (n i row b entry : ℕ) (met : Option HalfFound) (end : Option PassedEnd) → IsAutomaton a → HoldsSteps (directed a) a.alphabet.now cache
    → b < 256 → slice_get bytes n ≡ Some b → slice_get cache.table (row + class_of a.alphabet.now.classes b) ≡ Some entry → entry < 2147483648 → IsRunning a cache (run_of x (take n bytes) i met row end)
    → IsRunning a cache (run_of x (take (n + 1) bytes) i met entry end)
run_on law a cache x bytes n i row b entry met end made is low at stands below run = by (run_entry a cache x bytes n i row b entry met end made is low stands run)
  where
    by : IsEntry (directed a) a.alphabet.now cache.width cache.states run.next (ahead_in a.alphabet.now (class_of a.alphabet.now.classes b)) entry → IsRunning a cache (run_of x (take (n + 1) bytes) i met entry end)
    by (unknown e) = absurd (omega (arith, below, e))
    by (quit e why) = absurd (omega (arith, below, e))
    by (ends to e high some) = absurd (omega (arith, below, e))
    by (over to e high) = absurd (omega (arith, below, e))
    by (plain {number} to e small unmet) = record {
      number = number;
      next = to.next;
      last = run.last;
      row_is = e;
      stands = to.stands;
      noted = run.noted;
      passes = subst (λ o. Passes a (take (n + 1) bytes) i x met to.next (met_after (i + n) o run.last)) unmet (run_leads law a cache x bytes n i row b number met end made is low at run to);
    }

some_met : (i : ℕ) (ended : Option ℕ) (met met' : Option HalfFound) → IsSome ended → met_after i ended met ≡ met_after i ended met'
some_met i None met met' some = absurd (cc some)
some_met i (Some k) met met' some = refl

-- a match ends
pub run_notes : AlikeLaws → (a : Automaton) (cache : CacheView) (x : AutomatonState) (bytes : List ℕ) (n i row b entry row' : ℕ) (met : Option HalfFound) (end : Option PassedEnd) → IsAutomaton a → HoldsSteps (directed a) a.alphabet.now cache
    → b < 256 → slice_get bytes n ≡ Some b → slice_get cache.table (row + class_of a.alphabet.now.classes b) ≡ Some entry → 2147483648 ≤ entry → entry < 3221225472 → entry ≡ 2147483648 + row' → IsRunning a cache (run_of x (take n bytes) i met row end)
    → IsRunning a cache (run_of x (take (n + 1) bytes) i met row' (Some (record { row = row'; at = i + n })))
run_notes law a cache x bytes n i row b entry row' met end made is low at stands above below row_is run = by (run_entry a cache x bytes n i row b entry met end made is low stands run)
  where
    by : IsEntry (directed a) a.alphabet.now cache.width cache.states run.next (ahead_in a.alphabet.now (class_of a.alphabet.now.classes b)) entry → IsRunning a cache (run_of x (take (n + 1) bytes) i met row' (Some (record { row = row'; at = i + n })))
    by (unknown e) = absurd (omega (arith, below, e))
    by (quit e why) = absurd (omega (arith, below, e))
    by (plain to e small unmet) = absurd (omega (arith, above, small))
    by (over to e high) = absurd (omega (arith, below, e))
    by (ends {number} to e high some) =
        let here : row' ≡ number * cache.width = omega (arith, e, row_is) in
        record {
          number = number;
          next = to.next;
          last = met_after (i + n) to.next.ended run.last;
          row_is = here;
          stands = to.stands;
          noted = record { number = number; state = to.next; row_is = here; stands = to.stands; last_is = λ o. some_met (i + n) to.next.ended run.last o some };
          passes = run_leads law a cache x bytes n i row b number met end made is low at run to;
        }

pub run_ends : (a : Automaton) (cache : CacheView) (x : AutomatonState) (bytes : List ℕ) (i row at : ℕ) (met met' : Option HalfFound) (end : Option PassedEnd) → 0 < cache.width → at ≡ row / cache.width → ((last : Option HalfFound) → IsNoted cache.width cache.states met end last → met' ≡ last)
    → IsRunning a cache (run_of x bytes i met row end) → HasPassed a cache.states x bytes i met at met'
run_ends a cache x bytes i row at met met' end some e told run =
    let here : at ≡ run.number = e ∙ ap (λ r. r / cache.width) run.row_is ∙ mul-div_cancel run.number some in
    record {
      next = run.next;
      stands = ap (λ k. slice_get cache.states k) here ∙ run.stands;
      passes = subst (λ o. Passes a bytes i x met run.next o) (sym (told run.last run.noted)) run.passes;
    }

-- the match end that was noted last
pub noted_last : (w : ℕ) (states : List AutomatonState) (row place number : ℕ) (ended : Option ℕ) (last met : Option HalfFound) → 0 < w → number ≡ row / w → ((y : AutomatonState) → slice_get states number ≡ Some y → ended ≡ y.ended) → IsMetAt w states row place last → met_after place ended met ≡ last
noted_last w states row place number ended last met some e told at =
    let here : number ≡ at.number = e ∙ ap (λ r. r / w) at.row_is ∙ mul-div_cancel at.number some in
    ap (λ o. met_after place o met) (told at.state (ap (λ k. slice_get states k) here ∙ at.stands)) ∙ sym (at.last_is met)

pub noted_inside : (w : ℕ) (states : List AutomatonState) (met last : Option HalfFound) (end : Option PassedEnd) → 0 < w → IsNoted w states met end last → (passed : PassedEnd) → end ≡ Some passed → passed.row / w < length states
noted_inside w states met last end some noted passed e =
    let at : IsMetAt w states passed.row passed.at last = subst (λ o. IsNoted w states met o last) e noted in
    let here : passed.row / w ≡ at.number = ap (λ r. r / w) at.row_is ∙ mul-div_cancel at.number some in
    omega (arith, here, slice_get_within states at.number at.state at.stands)
