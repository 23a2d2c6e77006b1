-- The bytes of one chunk, and where a search is after them.
use Rattle.std.proofs.Common.{inl, inr, ◌≡◌, ℕ, zero, suc, ◌+◌, ◌-◌, ◌≤◌, Bool, true, false, ◌&&◌, cond, List, [], ◌∷◌, ◌++◌, length, take, drop, Option, Some, None, option_map, slice_get, refl, sym, ap, ap₂, subst, ◌∙◌, arith}
use Rattle.std.specs.Prelude.{◌==◌, not, nat_lt}
use Rattle.std.proofs.lemmas.List.{length-take, take-take}
use Rattle.std.proofs.lemmas.Option.{get_or_from_slice_get, slice_get_within}
use Rattle.rx_util.specs.Search.{HalfFound}
use Rattle.rx_util.specs.declared.search.MatchError.{MatchError}
use Rattle.rx_util.specs.declared.search.MatchError.TheVariants.{Memory, Quit, GaveUp, UnsupportedAnchored}
use Rattle.rx_walks.specs.Finds.{Search, IsInside}
use Rattle.rx_walks.specs.ProgramFinds.{lowest}
use Rattle.rx_program.specs.Programs.{ByteProgram}
use Rattle.rx_program.specs.declared.states.State.{State}
use Rattle.rx_steps.specs.declared.asked.AskedLooks.{AskedLooks}
use Rattle.rx_walks.specs.Machines.{Outcome}
use Rattle.rx_walks.specs.Programs.{Notes}
use Rattle.rx_steps.specs.Threads.{Slots}
use Rattle.rx_steps.specs.Searching.{IsAnswer}
use Rattle.rx_steps.specs.Coming.{HasCome, machine_in}
use Rattle.rx_steps.proofs.ComeLaws.{begun, skipped_all}
use Rattle.rx_dfa.specs.declared.automaton.Automaton.{Automaton}
use Rattle.rx_dfa.specs.declared.behind.Behind.TheVariants.{Edge, Byte}
use Rattle.rx_dfa.specs.declared.states.AutomatonState.{AutomatonState}
use Rattle.rx_dfa.specs.Behind.{behind_of, quits, is_word_ascii}
use Rattle.rx_dfa.specs.Directions.{Directed}
use Rattle.rx_dfa.specs.Automata.{directed}
use Rattle.rx_dfa.specs.States.{IsStateOf}
use Rattle.rx_dfa.specs.Alphabets.{AlphabetView}
use Rattle.rx_dfa.specs.Caches.{CacheView, HoldsSteps}
use Rattle.rx_dfa.specs.Searching.{AreAskedBy, StartsSo, HasReached, IsBehind, IsHalfAnswer, byte_before}
use Rattle.rx_dfa.specs.Passing as passing
use Rattle.rx_dfa.specs.Passing.{Passes, HasPassed, StandThere, SearchStandsAt, IsRefusal}
use Rattle.rx_dfa.specs.Tables.{IsLack, IsRefusalAmong, IsRefusalBy, IsTable}
use Rattle.rx_dfa.proofs.TableLaws.{there_is}
use Rattle.rx_dfa.proofs.PassLaws.{passes_both, take_one}
use Rattle.rx_dfa.proofs.LoopLaws.{Laws}
use Rattle.rx_dfa.proofs.SearchLaws.{bytes_passed}

-- ---- bytes after bytes

pub take_both : (bytes : List ℕ) (n m few : ℕ) → m ≤ few → take n bytes ++ take m (take few (drop n bytes)) ≡ take (n + m) bytes
take_both bytes n m few le = ap (λ xs. take n bytes ++ xs) (take-take m few (drop n bytes) le) ∙ both bytes n m
  where
    both : (bytes : List ℕ) (n m : ℕ) → take n bytes ++ take m (drop n bytes) ≡ take (n + m) bytes
    both bytes zero m = ap (λ k. take k bytes) (omega arith)
    both [] (suc n) zero =
        let more : suc (n + 0) ≡ suc n + 0 = omega arith in
        ap (λ k. take k []) more
    both [] (suc n) (suc m) =
        let more : suc (n + suc m) ≡ suc n + suc m = omega arith in
        ap (λ k. take k []) more
    both (x ∷ bytes) (suc n) m =
        let more : suc (n + m) ≡ suc n + m = omega arith in
        ap (λ xs. x ∷ xs) (both bytes n m) ∙ ap (λ k. take k (x ∷ bytes)) more

pub passed_on : (a : Automaton) (states states' : List AutomatonState) (x : AutomatonState) (first second all : List ℕ) (at : ℕ) (met met' met'' : Option HalfFound) (number number' : ℕ) → first ++ second ≡ all
    → HasPassed a states x first at met number met' → ((y : AutomatonState) → slice_get states number ≡ Some y → HasPassed a states' y second (at + length first) met' number' met'') → HasPassed a states' x all at met number' met''
passed_on a states states' x first second all at met met' met'' number number' whole so_far then =
    let on = then so_far.next so_far.stands in
    record {
      next = on.next;
      stands = on.stands;
      passes = subst (λ bytes. Passes a bytes at x met on.next met'') whole (passes_both a first second at x so_far.next on.next met met' met'' so_far.passes on.passes);
    }

pub passed_none : (a : Automaton) (states : List AutomatonState) (x : AutomatonState) (bytes : List ℕ) (at number : ℕ) (met : Option HalfFound) → slice_get states number ≡ Some x → HasPassed a states x (take 0 bytes) at met number met
passed_none a states x bytes at number met stands = record { next = x; stands = stands; passes = passing.none }

-- a run through the table after the bytes so far
pub run_after : (a : Automaton) (states : List AutomatonState) (x : AutomatonState) (bytes : List ℕ) (n m few at number number' : ℕ) (met met' met'' : Option HalfFound) → n ≤ length bytes → m ≤ length (take few (drop n bytes))
    → HasPassed a states x (take n bytes) at met number met' → ((y : AutomatonState) → slice_get states number ≡ Some y → HasPassed a states y (take m (take few (drop n bytes))) (at + n) met' number' met'')
    → HasPassed a states x (take (n + m) bytes) at met number' met''
run_after a states x bytes n m few at number number' met met' met'' inside within so_far run =
    let far : at + n ≡ at + length (take n bytes) = omega (arith, length-take n bytes, inside) in
    passed_on a states states x (take n bytes) (take m (take few (drop n bytes))) (take (n + m) bytes) at met met' met'' number number' (take_both bytes n m few (omega (arith, within, length-take few (drop n bytes)))) so_far
    (λ y stands. subst (λ i. HasPassed a states y (take m (take few (drop n bytes))) i met' number' met'') far (run y stands))

-- that run in the table's states and steps
pub run_shown : (a : Automaton) (known shown : CacheView) (bytes : List ℕ) (at number number' : ℕ) (met met' : Option HalfFound) → known ≡ shown → ((x : AutomatonState) → slice_get known.states number ≡ Some x → HasPassed a known.states x bytes at met number' met')
    → (x : AutomatonState) → slice_get shown.states number ≡ Some x → HasPassed a shown.states x bytes at met number' met'
run_shown a known shown bytes at number number' met met' same run = subst (λ (v : CacheView). (x : AutomatonState) → slice_get v.states number ≡ Some x → HasPassed a v.states x bytes at met number' met') same run

-- and a byte after them
pub byte_after_them : (a : Automaton) (states states' : List AutomatonState) (x : AutomatonState) (bytes : List ℕ) (n b at number number' : ℕ) (met met' met'' : Option HalfFound) → slice_get bytes n ≡ Some b → HasPassed a states x (take n bytes) at met number met'
    → ((y : AutomatonState) → slice_get states number ≡ Some y → HasPassed a states' y (b ∷ []) (at + n) met' number' met'') → HasPassed a states' x (take (n + 1) bytes) at met number' met''
byte_after_them a states states' x bytes n b at number number' met met' met'' is so_far pass =
    let far : at + n ≡ at + length (take n bytes) = omega (arith, length-take n bytes, slice_get_within bytes n b is) in
    passed_on a states states' x (take n bytes) (b ∷ []) (take (n + 1) bytes) at met met' met'' number number' (sym (take_one bytes n b is)) so_far
    (λ y stands. subst (λ i. HasPassed a states' y (b ∷ []) i met' number' met'') far (pass y stands))

-- ---- errors

one_byte : (b c k : ℕ) → slice_get (b ∷ []) k ≡ Some c → (k ≡ 0) × (b ≡ c)
one_byte b c zero e = let same : Some b ≡ Some c = e in (refl, cc same)
one_byte b c (suc k) e = absurd (cc e)

pub refused_on : (is_whole : Bool) (a : Automaton) (at n b : ℕ) (bytes : List ℕ) (e : MatchError) → slice_get bytes n ≡ Some b → IsRefusalAmong is_whole a (at + n) (b ∷ []) e → IsRefusalAmong is_whole a at bytes e
refused_on is_whole a at n b bytes Memory is why = why
refused_on is_whole a at n b bytes (Quit c i) is (le, e, told) =
    let here = one_byte b c (i - (at + n)) e in
    let far : i - at ≡ n = omega (arith, here.0, le) in
    (omega (arith, le), ap (λ k. slice_get bytes k) far ∙ is ∙ ap Some here.1, told)
refused_on is_whole a at n b bytes (GaveUp i) is (part, le, lt) = (part, omega (arith, le), omega (arith, lt, slice_get_within bytes n b is))
refused_on is_whole a at n b bytes (UnsupportedAnchored mode) is why = why

-- why a table lacks a step
pub lacks_among : (is_whole : Bool) (a : Automaton) (at b : ℕ) (e : MatchError) → IsLack is_whole at e → IsRefusalAmong is_whole a at (b ∷ []) e
lacks_among true a at b e lack = absurd lack
lacks_among false a at b e (inl is) = subst (λ r. IsRefusalAmong false a at (b ∷ []) r) (sym is) refl
lacks_among false a at b e (inr is) = subst (λ r. IsRefusalAmong false a at (b ∷ []) r) (sym is) (refl, omega arith, omega arith)

pub lacks_there : (is_whole : Bool) (a : Automaton) (s : Search) (i at : ℕ) (e : MatchError) → IsInside s i → at ≡ i → IsLack is_whole at e → IsRefusalBy is_whole a s e
lacks_there true a s i at e inside here lack = absurd lack
lacks_there false a s i at e inside here (inl is) = subst (λ r. IsRefusal a.alphabet.now.asked s r) (sym is) tt
lacks_there false a s i at e inside here (inr is) = subst (λ r. IsRefusal a.alphabet.now.asked s r) (sym is) (subst (λ k. IsInside s k) (sym here) inside)

-- a byte before which a search must quit
pub quit_there : (is_whole : Bool) (a : Automaton) (s : Search) (b i : ℕ) → IsRefusal a.alphabet.now.asked s (Quit b i) → IsRefusalBy is_whole a s (Quit b i)
quit_there true a s b i why = why
quit_there false a s b i why = why

pub content_long : (s : Search) (i : ℕ) (bytes : List ℕ) → StandThere s i bytes → i ≤ length s.content → i + length bytes ≤ length s.content
content_long s i bytes there within = by (length bytes) refl
  where
    by : (n : ℕ) → length bytes ≡ n → i + length bytes ≤ length s.content
    by zero e = omega (arith, e, within)
    by (suc n) e =
        let last = there_is bytes n (omega (arith, e)) in
        omega (arith, e, slice_get_within s.content (i + n) last.0 (there.are n last.0 last.1))

pub refused_there : (is_whole : Bool) (a : Automaton) (s : Search) (i : ℕ) (bytes : List ℕ) (e : MatchError) → StandThere s i bytes → i ≤ length s.content → IsRefusalAmong is_whole a i bytes e → IsRefusalBy is_whole a s e
refused_there true a s i bytes Memory there within why = absurd (cc why)
refused_there false a s i bytes Memory there within why = tt
refused_there is_whole a s i bytes (Quit b j) there within (le, e, told) =
    let far : i + (j - i) ≡ j = omega (arith, le) in
    let lt = slice_get_within bytes (j - i) b e in
    quit_there is_whole a s b j (ap (λ k. slice_get s.content k) (sym far) ∙ there.are (j - i) b e, omega (arith, there.low, le), omega (arith, there.end, lt, le), told)
refused_there true a s i bytes (GaveUp j) there within why = absurd (cc why.0)
refused_there false a s i bytes (GaveUp j) there within (part, le, lt) =
    (omega (arith, there.low, le), omega (arith, there.end, lt), omega (arith, there.low, le), omega (arith, there.end, lt), omega (arith, content_long s i bytes there within, lt))
refused_there true a s i bytes (UnsupportedAnchored mode) there within why = absurd why
refused_there false a s i bytes (UnsupportedAnchored mode) there within why = absurd why

-- ---- where a search is

get_taken : (xs : List ℕ) (n k b : ℕ) → slice_get (take n xs) k ≡ Some b → slice_get xs k ≡ Some b
get_taken [] zero k b e = absurd (cc e)
get_taken [] (suc n) k b e = absurd (cc e)
get_taken (x ∷ xs) zero k b e = absurd (cc e)
get_taken (x ∷ xs) (suc n) zero b e = e
get_taken (x ∷ xs) (suc n) (suc k) b e = get_taken xs n k b e

first_there : (s : Search) (i n : ℕ) (bytes : List ℕ) → StandThere s i bytes → StandThere s i (take n bytes)
first_there s i n bytes there = record {
  are = λ k b e. there.are k b (get_taken bytes n k b e);
  end = omega (arith, there.end, length-take n bytes);
  low = there.low;
}

pub stands_on : Laws → (a : Automaton) (s : Search) (q i n : ℕ) (bytes : List ℕ) (states states' : List AutomatonState) (number number' : ℕ) (met met' : Option HalfFound) → (directed a).is_back ≡ false → AreAskedBy (directed a).bytes.states a.alphabet.now.asked → a.alphabet.now.utf8_empty ≡ s.utf8_empty
    → StandThere s i bytes → n ≤ length bytes → ((x : AutomatonState) → slice_get states number ≡ Some x → HasPassed a states' x (take n bytes) i met number' met') → SearchStandsAt a s q i states number met → SearchStandsAt a s q (i + n) states' number' met'
stands_on laws a s q i n bytes states states' number number' met met' way are same there le passed at =
    let on = passed at.state at.stands in
    let far : length (take n bytes) ≡ n = omega (arith, length-take n bytes, le) in
    let reached = bytes_passed laws a s q (take n bytes) i at.state on.next met met' way are same (first_there s i n bytes there) on.passes at.reached at.behind in
    record {
      state = on.next;
      stands = on.stands;
      reached = subst (λ k. HasReached (directed a).bytes s q (i + k) on.next met') far reached.0;
      behind = subst (λ k. IsBehind (directed a).bytes a.alphabet.now.asked s (i + k) on.next) far reached.1;
    }

pub state_at : (p : Directed) (alphabet : AlphabetView) (cache : CacheView) (number : ℕ) (x : AutomatonState) → HoldsSteps p alphabet cache → slice_get cache.states number ≡ Some x → IsStateOf p x
state_at p alphabet cache number x made stands = subst (λ y. IsStateOf p y) (get_or_from_slice_get cache.states number x x stands) (made.states number x (slice_get_within cache.states number x stands))

pub cache_in : (is_whole : Bool) (a : Automaton) (table : CacheView) → IsTable is_whole a table → HoldsSteps (directed a) a.alphabet.now table
cache_in false a table made = made.steps
cache_in true a table closed = closed.made

-- ---- the start

pub reached_first : (p : ByteProgram) (s : Search) (q i : ℕ) (x : AutomatonState) → i ≡ lowest s → x.threads.threads ≡ [] → StartsSo s q i x.starting None → HasReached p s q i x None
reached_first p s q i x first none starts =
    let m = machine_in p s in
    let k = i - s.start in
    let whole : s.start + k ≡ i = omega (arith, first) in
    let come : HasCome m s q [] (s.start + k) [] None = skipped_all m s q [] k s.start (λ j from below begins. omega (arith, first, from, below, begins.0.0.0)) (begun m s q []) in
    record {
      come = subst (λ xs. HasCome m s q [] i xs None) (sym none) (subst (λ j. HasCome m s q [] j [] None) whole come);
      starts = starts;
    }

not_true : (b : Bool) → (b ≡ true → ⊥) → b ≡ false
not_true true never = absurd (never refl)
not_true false never = refl

no_looks : (states : List State) (asked : AskedLooks) → AreAskedBy states asked → asked.any ≡ false → (asked.lines ≡ false) × (asked.words ≡ false)
no_looks states asked are none = (
  not_true asked.lines (λ e. let some = are.lines.0 e in let any : asked.any ≡ true = are.any.1 (some.0, refl, some.2) in absurd (cc (sym any ∙ none))),
  not_true asked.words (λ e. let some = are.words.0 e in let any : asked.any ≡ true = are.any.1 (some.0, refl, some.2) in absurd (cc (sym any ∙ none))),
)

-- the byte before an offset is all that assertions need to know of what precedes
pub behind_is : (p : ByteProgram) (asked : AskedLooks) (s : Search) (i : ℕ) (x : AutomatonState) (o : Option ℕ) → AreAskedBy p.states asked → (asked.any ≡ true → o ≡ byte_before s i) → (asked.any ≡ false → o ≡ None) → x.behind ≡ behind_of asked p.line_terminator o → quits asked o ≡ false
    → IsBehind p asked s i x
behind_is p asked s i x o are known unknown behind told = by asked.any refl
  where
    plain : (c : Option ℕ) → asked.any ≡ false → asked.lines ≡ false → asked.words ≡ false → (behind_of asked p.line_terminator None ≡ behind_of asked p.line_terminator c) × (quits asked c ≡ false)
    plain None none lines words = (refl, refl)
    plain (Some b) none lines words = (
      ap (λ a. cond a Edge (Byte false false)) none ∙ sym (ap₂ (λ l w. Byte (l && (b == p.line_terminator)) (w && is_word_ascii b)) lines words),
      ap (λ w. w && not (nat_lt b 128)) words,
    )

    by : (a : Bool) → asked.any ≡ a → IsBehind p asked s i x
    by true e = record {
      is = behind ∙ ap (λ c. behind_of asked p.line_terminator c) (known e);
      told = ap (λ c. quits asked c) (sym (known e)) ∙ told;
    }
    by false e =
        let none = no_looks p.states asked are e in
        let rest = plain (byte_before s i) e none.0 none.1 in
        record {
          is = behind ∙ ap (λ c. behind_of asked p.line_terminator c) (unknown e) ∙ rest.0;
          told = rest.1;
        }

-- ---- no search

pub half_of_none : (p : ByteProgram) (s : Search) (slots : Slots) → IsAnswer p s None slots → IsHalfAnswer p s None
half_of_none p s slots answer = record { found = answer.found; finds = answer.finds; met_is = by answer.found answer.pattern_is }
  where
    by : (found : Option (Outcome Notes)) → None ≡ option_map (λ t. t.pattern) found → ◌≡◌ {A = Option HalfFound} None (option_map (λ t. record { pattern = t.pattern; offset = t.end }) found)
    by None e = refl
    by (Some t) e = absurd (cc e)
