-- A step of threads without slots meets the same match end if the next byte isn't read, and leaves
-- no thread.
use Rattle.std.proofs.Common.{◌≡◌, ℕ, Bool, true, false, List, [], ◌∷◌, ◌++◌, map, Option, Some, None, slice_get, refl, sym, ap, subst, ◌∙◌}
use Rattle.rx_program.specs.declared.states.State.{State}
use Rattle.rx_program.specs.declared.states.State.TheVariants as state
use Rattle.rx_program.specs.Programs.{ByteProgram, character_program}
use Rattle.rx_program.specs.Code.{place_of}
use Rattle.rx_utf8.specs.Automata.{step_of}
use Rattle.rx_walks.specs.Machines.{Move, Outcome, ends, goes, reads}
use Rattle.rx_walks.specs.Looks as walks
use Rattle.rx_walks.specs.Programs.{Haystack, only_if}
use Rattle.rx_walks.specs.Bytes.{Automaton, read_on}
use Rattle.rx_walks.specs.Steps.{Steps, done, passed, met, opened, read}
use Rattle.rx_steps.specs.declared.place.Place.{Place}
use Rattle.rx_steps.specs.Threads.{Slots, Thread, first_node}
use Rattle.rx_steps.specs.Lists.{IsPlace, is_among, move_at, read_next, slot_machine}
use Rattle.rx_steps.specs.Alike.{AreBare}
use Rattle.rx_steps.specs.Unread.{EndsAreMetUnread}
use Rattle.rx_steps.proofs.PlaceLaws.{moves_at_place}
use Rattle.rx_steps.proofs.AlikeLaws.{SlotMachine, none_noted, bare_end, bare_map, sample, is_sample, end_is}

-- ---- moves without a byte to read

-- a move as it is without a byte to read
abbrev pub Stopped : Move (ℕ × ℕ) → Move (ℕ × ℕ) → Type 0
Stopped (ends k) x = x ≡ ends k
Stopped (goes rs) x = x ≡ goes rs
Stopped (reads r l) x = x ≡ goes []

read_stopped : (q r i : ℕ) (o : Option (Option ℕ)) → Stopped (read_on q r i o) (goes [])
read_stopped q r i None = refl
read_stopped q r i (Some None) = refl
read_stopped q r i (Some (Some s)) = refl

next_stopped : (step : Automaton) (q r s i : ℕ) (b : Option ℕ) → Stopped (read_next step q r s i b) (goes [])
next_stopped step q r s i None = refl
next_stopped step q r s i (Some b) = read_stopped q r i (step s b)

only_stopped : (b : Bool) (rs : List (ℕ × ℕ)) → Stopped (only_if b (goes rs)) (only_if b (goes rs))
only_stopped true rs = refl
only_stopped false rs = refl

pub move_stopped : (place : Place) (i j : ℕ) (q : ℕ × ℕ) (x : State) → Stopped (move_at place i q x) (move_at (record place { byte = None }) j q x)
move_stopped place i j q (state.Ranges automaton r) = next_stopped (step_of automaton.value) q.0 r q.1 i place.byte
move_stopped place i j q (state.Look asked r) = only_stopped (is_among place.looks (place_of asked)) (first_node r ∷ [])
move_stopped place i j q (state.Empty r) = refl
move_stopped place i j q (state.BinaryUnion a b) = refl
move_stopped place i j q (state.Union alternates) = refl
move_stopped place i j q (state.Capture slot r) = refl
move_stopped place i j q (state.Match k) = refl

-- the second machine makes the moves of the first, but reads nothing; both write nothing without
-- slots
record GoStopped (m : SlotMachine) (i : ℕ) (m' : SlotMachine) (j : ℕ) : Type 0 where
  moves : (q : ℕ × ℕ) → Stopped (m.move i q) (m'.move j q)
  notes : (q : ℕ × ℕ) → m.note i q [] ≡ []
  notes' : (q : ℕ × ℕ) → m'.note j q [] ≡ []

go_stopped : (p : ByteProgram) (h h' : Haystack walks.Look) (i j : ℕ) (place : Place) → IsPlace p.states h i place → IsPlace p.states h' j (record place { byte = None }) → GoStopped (slot_machine p h) i (slot_machine p h') j
go_stopped p h h' i j place here there = record {
  moves = λ q. by_state q (slice_get p.states q.0) refl;
  notes = λ q. none_noted i (slice_get (character_program p).nodes q.0);
  notes' = λ q. none_noted j (slice_get (character_program p).nodes q.0);
}
  where
    by_state : (q : ℕ × ℕ) (o : Option State) → slice_get p.states q.0 ≡ o → Stopped ((slot_machine p h).move i q) ((slot_machine p h').move j q)
    by_state q None is = subst (λ x. Stopped x ((slot_machine p h').move j q)) (sym ((moves_at_place p h i place here).elsewhere q is)) ((moves_at_place p h' j (record place { byte = None }) there).elsewhere q is)
    by_state q (Some x) is =
        subst (λ y. Stopped y ((slot_machine p h').move j q)) (sym ((moves_at_place p h i place here).at_state q x is))
        (subst (λ y. Stopped (move_at place i q x) y) (sym ((moves_at_place p h' j (record place { byte = None }) there).at_state q x is)) (move_stopped place i j q x))

-- ---- the step

steps_stopped : {m m' : SlotMachine} {i j : ℕ} {seen : List (ℕ × ℕ)} {threads next : List Thread} {ended : Option (Outcome Slots)} → GoStopped m i m' j → AreBare threads → Steps m i seen threads next ended
    → Steps m' j seen threads [] (bare_end j ended)
steps_stopped alike bare done = done
steps_stopped alike bare (passed c rest) = passed c (steps_stopped alike bare.1 rest)
steps_stopped {m' = m'} {i = i} {j = j} alike bare (met {seen = seen} {n = n} {q = q} {p = p} {others = others} new is) =
    let on : m'.move j q ≡ ends p = subst (λ x. Stopped x (m'.move j q)) is (alike.moves q) in
    subst (λ k. Steps m' j seen ((n, q) ∷ others) [] (Some (record { pattern = p; end = j; notes = k }))) bare.0 (met new on)
steps_stopped {m = m} {m' = m'} {i = i} {j = j} alike bare (opened {seen = seen} {n = n} {q = q} {others = others} {next = next} {met = ended} rs new is rest) =
    let on : m'.move j q ≡ goes rs = subst (λ x. Stopped x (m'.move j q)) is (alike.moves q) in
    let none : m.note i q n ≡ [] = ap (λ k. m.note i q k) bare.0 ∙ alike.notes q in
    let none' : m'.note j q n ≡ [] = ap (λ k. m'.note j q k) bare.0 ∙ alike.notes' q in
    opened rs new on (subst (λ k. Steps m' j (q ∷ seen) (map (λ r. (k, r)) rs ++ others) [] (bare_end j ended)) (none ∙ sym none')
    (steps_stopped alike (bare_map rs (m.note i q n) others none bare.1) rest))
steps_stopped {m' = m'} {i = i} {j = j} alike bare (read {q = q} r new is rest) =
    let on : m'.move j q ≡ goes [] = subst (λ x. Stopped x (m'.move j q)) is (alike.moves q) in
    opened [] new on (steps_stopped alike bare.1 rest)

pub ends_are_met_unread : (p : ByteProgram) → EndsAreMetUnread p
ends_are_met_unread p place threads next ended slots bare list h i there =
    let h0 = sample place place.byte in
    let here : IsPlace p.states h0 place.at place = is_sample p.states place place.byte refl in
    subst (λ x. Steps (slot_machine p h) i [] threads [] x) (end_is i place.at ended slots)
    (steps_stopped (go_stopped p h0 h place.at i place here there) bare (list h0 place.at here))
