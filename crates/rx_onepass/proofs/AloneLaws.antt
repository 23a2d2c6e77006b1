-- An anchored search with a single thread, from its start to its end.
use Rattle.std.proofs.Common.{◌≡◌, ℕ, zero, suc, ◌+◌, ◌<◌, ◌≤◌, ◌-◌, true, IsTrue, List, [], ◌∷◌, length, min, max, Option, Some, None, IfSome, slice_get, refl, sym, ap, subst, ◌∙◌, arith}
use Rattle.std.proofs.lemmas.Option.{slice_get_within}
use Rattle.rx_program.specs.declared.states.State.{State}
use Rattle.rx_program.specs.declared.states.State.TheVariants as state
use Rattle.rx_program.specs.Programs.{ByteProgram, IsByteProgram, character_program}
use Rattle.rx_walks.specs.Finds.{Search, IsInside, anchored, is_anchored}
use Rattle.rx_walks.specs.Laws.{MayBegin}
use Rattle.rx_walks.specs.Machines.{Machine, Outcome}
use Rattle.rx_walks.specs.Programs.{Haystack, is_within, left_from}
use Rattle.rx_walks.specs.ProgramFinds.{lowest, highest, start_node}
use Rattle.rx_walks.specs.Steps.{Steps, Searches, either}
use Rattle.rx_steps.specs.Nodes.{IsNodeIn, MayStand}
use Rattle.rx_steps.specs.Threads.{Slots, Thread, no_slots}
use Rattle.rx_steps.specs.Lists.{slot_machine}
use Rattle.rx_util.specs.declared.search.Anchored.{Anchored}
use Rattle.rx_util.specs.declared.search.Anchored.TheVariants.{Yes}
use Rattle.rx_steps.specs.Searching.{IsAnswer, anchoring_of, haystack_in}
use Rattle.rx_steps.specs.Coming.{HasCome, IsOver, course_of, machine_in}
use Rattle.rx_steps.proofs.ByteLaws.{within_is, next_byte_is}
use Rattle.rx_steps.proofs.AnswerLaws.{KeepingLaw}
use Rattle.rx_steps.proofs.OverLaws.{over_answers}
use Rattle.rx_steps.proofs.ComeLaws.{begun, passed_with_start, passed_on, is_over}
use Rattle.rx_onepass.specs.declared.edges.Way.{Way}
use Rattle.rx_onepass.specs.declared.edges.Edge.{Edge}
use Rattle.rx_onepass.specs.Edges.{AreEdges, IsEdge, StepsAloneTo, note_if}
use Rattle.rx_onepass.specs.Alone.{AreAhead, IsAlone}
use Rattle.rx_onepass.proofs.MarkLaws.{noted_len}

none_before : {A : Type 0} (o : Option A) → either o None ≡ o
none_before None = refl
none_before (Some x) = refl

-- the search starts
pub alone_begun : (p : ByteProgram) (s : Search) (q len i : ℕ) (slots : Slots) → MayBegin s i → IsTrue (is_anchored s.anchoring) → IsNodeIn p.states (q, 0) → slots ≡ no_slots len → length slots ≡ len
    → IsAlone p s q len i slots (q, 0)
alone_begun p s q len i slots begins only stands empty e = record {
  anchored = only;
  behind = omega (arith, begins.0.1 only);
  slot_len = e;
  stands = stands;
  come = λ next met steps. (
    None,
    subst (λ o. HasCome (machine_in p s) s q (no_slots len) (i + 1) next o) (sym (none_before met))
        (passed_with_start (machine_in p s) s q (no_slots len) i [] next met begins
        (subst (λ xs. Steps (machine_in p s) i [] ((xs, (q, 0)) ∷ []) next met) empty steps)
        (subst (λ j. HasCome (machine_in p s) s q (no_slots len) j [] None) (sym (begins.0.1 only)) (begun (machine_in p s) s q (no_slots len)))),
  );
}

-- a step leaves a single thread
pub alone_on : (p : ByteProgram) (s : Search) (q len i k : ℕ) (slots slots' : Slots) (node r : ℕ × ℕ) → IsAlone p s q len i slots node → StepsAloneTo (machine_in p s) i slots node slots' k (Some r) → length slots' ≡ len
    → IsNodeIn p.states r → IsAlone p s q len (i + 1) slots' r
alone_on p s q len i k slots slots' node r alone leads e stands =
    let on = alone.come ((slots', r) ∷ []) leads.0 leads.1 in
    record {
      anchored = alone.anchored;
      behind = omega (arith, alone.behind);
      slot_len = e;
      stands = stands;
      come = λ next met steps. (
        either leads.0 on.0,
        passed_on (machine_in p s) s q (no_slots len) (i + 1) ((slots', r) ∷ []) next (either leads.0 on.0) met
            (λ none begins. omega (arith, alone.behind, begins.0.1 alone.anchored)) steps on.1,
      );
    }

-- it leaves none, and a match ends
pub alone_ends : (p : ByteProgram) (s : Search) (q len i k : ℕ) (slots slots' : Slots) (node : ℕ × ℕ) → IsAlone p s q len i slots node → StepsAloneTo (machine_in p s) i slots node slots' k None → length slots' ≡ len
    → IsOver (course_of p s q) (Some k) slots'
alone_ends p s q len i k slots slots' node alone leads e =
    let found : Outcome Slots = record { pattern = k; end = i; notes = slots' } in
    let on = alone.come [] (Some found) leads in
    record {
      end = i;
      searches = subst (λ n. Searches (machine_in p s) (MayBegin s) (λ j. no_slots n) (q, 0) s.start [] None (Some found)) (sym e) (is_over (machine_in p s) s q (no_slots len) (i + 1) (Some found) (λ none. absurd (cc none)) on.1);
      none_met = λ none. absurd (cc none);
    }

-- ---- in a haystack

-- where bytes are ahead, the next one is read
pub ahead_read : (terminator : ℕ) (s : Search) (i k b : ℕ) (bytes : List ℕ) → AreAhead s i bytes → slice_get bytes k ≡ Some b → k < length bytes
    → slice_get (left_from (haystack_in terminator s) (i + k)) 0 ≡ Some b
ahead_read terminator s i k b bytes ahead there lt = next_byte_is s.content (min s.slice_end s.end) (i + k) (omega (arith, ahead.end, lt)) ∙ ahead.are k b there

bytes_within : (xs : List ℕ) (k b : ℕ) → slice_get xs k ≡ Some b → k < length xs
bytes_within xs k b there = slice_get_within xs k b there

pub ahead_within : (terminator : ℕ) (s : Search) (i k b : ℕ) (bytes : List ℕ) → AreAhead s i bytes → slice_get bytes k ≡ Some b → k < length bytes
    → is_within (haystack_in terminator s).low (haystack_in terminator s).high (i + k) ≡ true
ahead_within terminator s i k b bytes ahead there lt =
    let content : i + k < length s.content = bytes_within s.content (i + k) b (ahead.are k b there) in
    within_is (lowest s) (highest s) (i + k) (omega (arith, ahead.low)) (omega (arith, ahead.end, lt, content))

pub inside_within : (terminator : ℕ) (s : Search) (i : ℕ) → IsInside s i → is_within (haystack_in terminator s).low (haystack_in terminator s).high i ≡ true
inside_within terminator s i inside = within_is (lowest s) (highest s) i (omega (arith, inside.0, inside.2)) (omega (arith, inside.1, inside.3, inside.4))

-- a known edge over the next byte is followed
pub alone_read : (p : ByteProgram) (s : Search) (q len i k b : ℕ) (bytes : List ℕ) (slots : Slots) (e : Edge) (r : ℕ × ℕ) → IsEdge p len e → e.byte ≡ Some b → e.way.node ≡ Some r → AreAhead s i bytes → slice_get bytes k ≡ Some b → k < length bytes
    → IsAlone p s q len (i + k) slots e.from → IsAlone p s q len (i + k + 1) (note_if e.noted (i + k) slots) r
alone_read p s q len i k b bytes slots e r edge byte way ahead there lt alone =
    let h = haystack_in p.line_terminator s in
    let leads : StepsAloneTo (slot_machine p h) (i + k) slots e.from (note_if e.noted (i + k) slots) e.way.pattern (Some r) =
    subst (λ w. StepsAloneTo (slot_machine p h) (i + k) slots e.from (note_if e.noted (i + k) slots) e.way.pattern w) way
    (edge.leads h (i + k) slots (ahead_within p.line_terminator s i k b bytes ahead there lt) (ahead_read p.line_terminator s i k b bytes ahead there lt ∙ sym byte) alone.slot_len) in
    alone_on p s q len (i + k) e.way.pattern slots (note_if e.noted (i + k) slots) e.from r alone leads (noted_len e.noted (i + k) slots ∙ alone.slot_len)
    (subst (λ w. IfSome w (IsNodeIn p.states)) way edge.stands)

there_is : (xs : List ℕ) (k : ℕ) → k < length xs → (x : ℕ) × (slice_get xs k ≡ Some x)
there_is [] k lt = absurd (omega (arith, lt))
there_is (x ∷ xs) zero lt = (x, refl)
there_is (x ∷ xs) (suc k) lt = there_is xs k (omega (arith, lt))

-- the offsets up to the end of the bytes ahead are inside
pub ahead_inside : (s : Search) (i n : ℕ) (bytes : List ℕ) → AreAhead s i bytes → IsInside s i → n ≤ length bytes → IsInside s (i + n)
ahead_inside s i zero bytes ahead inside le = subst (λ j. IsInside s j) (omega arith) inside
ahead_inside s i (suc n) bytes ahead inside le =
    let one = there_is bytes n (omega (arith, le)) in
    let content : i + n < length s.content = bytes_within s.content (i + n) one.0 (ahead.are n one.0 one.1) in
    (omega (arith, inside.0), omega (arith, ahead.end, le), omega (arith, inside.2), omega (arith, ahead.end, le), omega (arith, content))

-- known edges were followed, from an input that asks for the same search
pub run_on : (p : ByteProgram) (s s' : Search) (q len len' i j n : ℕ) (slots slots' : Slots) (node node' : ℕ × ℕ) (edges : List (Option Edge)) → s' ≡ s → len' ≡ len → n ≡ len → AreEdges p n edges → IsInside s i → IsAlone p s q len i slots node
    → (AreEdges p len' edges → IsInside s' i → IsAlone p s' q len' i slots node → IsAlone p s' q len' j slots' node') → IsAlone p s q len j slots' node'
run_on p s s' q len len' i j n slots slots' node node' edges same e f are inside alone ran =
    subst (λ k. IsAlone p s q k j slots' node') e (subst (λ x. IsAlone p x q len' j slots' node') same
    (ran (subst (λ k. AreEdges p k edges) (f ∙ sym e) are) (subst (λ x. IsInside x i) (sym same) inside)
    (subst (λ x. IsAlone p x q len' i slots node) (sym same) (subst (λ k. IsAlone p s q k i slots node) (sym e) alone))))

-- a step from an input that asks for the same search
pub steps_same : (p : ByteProgram) (s s' : Search) (i : ℕ) (slots slots' : Slots) (node : ℕ × ℕ) (k : ℕ) (to to' : Option (ℕ × ℕ)) → s' ≡ s → to ≡ to' → StepsAloneTo (machine_in p s') i slots node slots' k to
    → StepsAloneTo (machine_in p s) i slots node slots' k to'
steps_same p s s' i slots slots' node k to to' same e steps = subst (λ o. StepsAloneTo (machine_in p s) i slots node slots' k o) e (subst (λ x. StepsAloneTo (machine_in p x) i slots node slots' k to) same steps)

pub first_node_stands : (states : List State) (q : ℕ) → IsNodeIn states (q, 0)
first_node_stands states q = by (slice_get states q)
  where
    by : (o : Option State) → MayStand o 0
    by None = refl
    by (Some (state.Ranges automaton r)) = tt
    by (Some (state.Look asked r)) = refl
    by (Some (state.Empty r)) = refl
    by (Some (state.BinaryUnion a b)) = refl
    by (Some (state.Union alternates)) = refl
    by (Some (state.Capture slot r)) = refl
    by (Some (state.Match k)) = refl

-- an anchored input
pub is_anchored_input : (a : Anchored) → a ≡ Yes → IsTrue (is_anchored (anchoring_of a))
is_anchored_input a e = subst (λ x. IsTrue (is_anchored (anchoring_of x))) (sym e) refl

-- the result, if there is one
pub answered : (p : ByteProgram) (s other : Search) (found : Option ℕ) (slots : Slots) → other ≡ s → IsByteProgram p → KeepingLaw → s.anchoring ≡ anchored → IfSome found (λ k. IsOver (course_of p other p.start) (Some k) slots)
    → IfSome found (λ k. IsAnswer p s (Some k) slots)
answered p s other None slots same reads law mode way = tt
answered p s other (Some k) slots same reads law mode way =
    over_answers p s other p.start (Some k) slots same reads law (subst (λ a. start_node (character_program p) a ≡ Some p.start) (sym mode) refl) way
