-- The step of threads without slots is the same at all positions that are alike; if no byte is
-- read, it leaves no thread.
use Rattle.std.proofs.Common.{◌≡◌, ℕ, zero, suc, ◌+◌, Bool, true, false, List, [], ◌∷◌, ◌++◌, map, take, drop, Option, Some, None, option_map, slice_get, refl, sym, ap, subst, ◌∙◌, arith}
use Rattle.rx_program.specs.declared.states.State.{State}
use Rattle.rx_program.specs.declared.states.State.TheVariants as state
use Rattle.rx_program.specs.Programs.{ByteProgram, automaton_of, automata_of, character_program}
use Rattle.rx_program.specs.Code.{place_of}
use Rattle.rx_utf8.specs.Automata.{step_of}
use Rattle.rx_walks.specs.Machines.{Machine, Move, Outcome, ends, goes, reads}
use Rattle.rx_walks.specs.Looks as walks
use Rattle.rx_walks.specs.Programs.{Node, match, pass, note, look, set, Haystack, only_if, note_at}
use Rattle.rx_walks.specs.Bytes.{Automaton, read_on}
use Rattle.rx_walks.specs.Steps.{Steps, done, passed, met, opened, read}
use Rattle.rx_steps.specs.declared.place.Place.{Place}
use Rattle.rx_steps.specs.Threads.{Slots, Thread, first_node, note_slot}
use Rattle.rx_steps.specs.Lists.{IsPlace, is_among, met_at, move_at, read_next, slot_machine}
use Rattle.rx_steps.specs.Alike.{AreReadAlike, AreAlike, AreBare, StepsAreAlike, StepsEnd}
use Rattle.rx_steps.proofs.ByteLaws.{within_is}
use Rattle.rx_steps.proofs.ComeLaws.{none_read}
use Rattle.rx_steps.proofs.PlaceLaws.{moves_at_place}
use Rattle.rx_steps.proofs.IdleLaws.{with_byte, last_of}

abbrev pub SlotMachine : Type 0
SlotMachine = Machine (ℕ × ℕ) Slots

-- ---- moves at positions that are alike

-- a move at one offset as that at another
abbrev pub Carried : ℕ → ℕ → Move (ℕ × ℕ) → Move (ℕ × ℕ) → Type 0
Carried i j (ends k) x = x ≡ ends k
Carried i j (goes rs) x = x ≡ goes rs
Carried i j (reads r l) x = (l ≡ i + 1) × (x ≡ reads r (j + 1))

read_carried : (q r i j : ℕ) (o : Option (Option ℕ)) → Carried i j (read_on q r i o) (read_on q r j o)
read_carried q r i j None = refl
read_carried q r i j (Some None) = (refl, refl)
read_carried q r i j (Some (Some s)) = (refl, refl)

next_carried : (p : ByteProgram) (step : Automaton) (q r s i j : ℕ) (b c : Option ℕ) → automata_of p q ≡ step → AreReadAlike p b c → Carried i j (read_next step q r s i b) (read_next step q r s j c)
next_carried p step q r s i j None None e alike = refl
next_carried p step q r s i j None (Some c) e alike = absurd alike
next_carried p step q r s i j (Some b) None e alike = absurd alike
next_carried p step q r s i j (Some b) (Some c) e alike =
    let same : step s b ≡ step s c = subst (λ f. f s b ≡ f s c) e (alike q s) in
    subst (λ o. Carried i j (read_on q r i (step s b)) (read_on q r j o)) same (read_carried q r i j (step s b))

only_carried : (i j : ℕ) (b : Bool) (rs : List (ℕ × ℕ)) → Carried i j (only_if b (goes rs)) (only_if b (goes rs))
only_carried i j true rs = refl
only_carried i j false rs = refl

pub move_carried : (p : ByteProgram) (first second : Place) (i j : ℕ) (q : ℕ × ℕ) (x : State) → AreAlike p first second → slice_get p.states q.0 ≡ Some x → Carried i j (move_at first i q x) (move_at second j q x)
move_carried p first second i j q (state.Ranges automaton r) alike is = next_carried p (step_of automaton.value) q.0 r q.1 i j first.byte second.byte (ap (λ o. automaton_of o) is) alike.reads
move_carried p first second i j q (state.Look asked r) alike is =
    subst (λ b. Carried i j (only_if (is_among first.looks (place_of asked)) (goes (first_node r ∷ []))) (only_if b (goes (first_node r ∷ []))))
    (alike.looks (place_of asked) (record { number = q.0; asked = asked; next = r; stands = is; is = refl }))
    (only_carried i j (is_among first.looks (place_of asked)) (first_node r ∷ []))
move_carried p first second i j q (state.Empty r) alike is = refl
move_carried p first second i j q (state.BinaryUnion a b) alike is = refl
move_carried p first second i j q (state.Union alternates) alike is = refl
move_carried p first second i j q (state.Capture slot r) alike is = refl
move_carried p first second i j q (state.Match k) alike is = refl

-- without slots nothing is written
pub none_noted : {L S : Type 0} (i : ℕ) (o : Option (Node L S)) → note_at note_slot i o [] ≡ []
none_noted i None = refl
none_noted i (Some (match k)) = refl
none_noted i (Some (pass rs)) = refl
none_noted i (Some (note slot r)) = refl
none_noted i (Some (look l r)) = refl
none_noted i (Some (set x r)) = refl

-- both machines make the same moves, and write nothing without slots
record GoAlike (m : SlotMachine) (i : ℕ) (m' : SlotMachine) (j : ℕ) : Type 0 where
  moves : (q : ℕ × ℕ) → Carried i j (m.move i q) (m'.move j q)
  notes : (q : ℕ × ℕ) → m.note i q [] ≡ []
  notes' : (q : ℕ × ℕ) → m'.note j q [] ≡ []

go_alike : (p : ByteProgram) (h h' : Haystack walks.Look) (i j : ℕ) (first second : Place) → IsPlace p.states h i first → IsPlace p.states h' j second → AreAlike p first second → GoAlike (slot_machine p h) i (slot_machine p h') j
go_alike p h h' i j first second here there alike = record {
  moves = λ q. by_state q (slice_get p.states q.0) refl;
  notes = λ q. none_noted i (slice_get (character_program p).nodes q.0);
  notes' = λ q. none_noted j (slice_get (character_program p).nodes q.0);
}
  where
    by_state : (q : ℕ × ℕ) (o : Option State) → slice_get p.states q.0 ≡ o → Carried i j ((slot_machine p h).move i q) ((slot_machine p h').move j q)
    by_state q None is = subst (λ x. Carried i j x ((slot_machine p h').move j q)) (sym ((moves_at_place p h i first here).elsewhere q is)) ((moves_at_place p h' j second there).elsewhere q is)
    by_state q (Some x) is =
        subst (λ y. Carried i j y ((slot_machine p h').move j q)) (sym ((moves_at_place p h i first here).at_state q x is))
        (subst (λ y. Carried i j (move_at first i q x) y) (sym ((moves_at_place p h' j second there).at_state q x is)) (move_carried p first second i j q x alike is))

-- ---- the step

abbrev pub bare_end : ℕ → Option (Outcome Slots) → Option (Outcome Slots)
bare_end j ended = option_map (λ t. record { pattern = t.pattern; end = j; notes = [] }) ended

pub bare_map : (rs : List (ℕ × ℕ)) (n : Slots) (others : List Thread) → n ≡ [] → AreBare others → AreBare (map (λ r. (n, r)) rs ++ others)
bare_map [] n others e bare = bare
bare_map (r ∷ rs) n others e bare = (e, bare_map rs n others e bare)

steps_carried : {m m' : SlotMachine} {i j : ℕ} {seen : List (ℕ × ℕ)} {threads next : List Thread} {ended : Option (Outcome Slots)} → GoAlike m i m' j → AreBare threads → Steps m i seen threads next ended
    → Steps m' j seen threads next (bare_end j ended)
steps_carried alike bare done = done
steps_carried alike bare (passed c rest) = passed c (steps_carried alike bare.1 rest)
steps_carried {m' = m'} {i = i} {j = j} alike bare (met {seen = seen} {n = n} {q = q} {p = p} {others = others} new is) =
    let on : m'.move j q ≡ ends p = subst (λ x. Carried i j x (m'.move j q)) is (alike.moves q) in
    subst (λ k. Steps m' j seen ((n, q) ∷ others) [] (Some (record { pattern = p; end = j; notes = k }))) bare.0 (met new on)
steps_carried {m = m} {m' = m'} {i = i} {j = j} alike bare (opened {seen = seen} {n = n} {q = q} {others = others} {next = next} {met = ended} rs new is rest) =
    let on : m'.move j q ≡ goes rs = subst (λ x. Carried i j x (m'.move j q)) is (alike.moves q) in
    let none : m.note i q n ≡ [] = ap (λ k. m.note i q k) bare.0 ∙ alike.notes q in
    let none' : m'.note j q n ≡ [] = ap (λ k. m'.note j q k) bare.0 ∙ alike.notes' q in
    opened rs new on (subst (λ k. Steps m' j (q ∷ seen) (map (λ r. (k, r)) rs ++ others) next (bare_end j ended)) (none ∙ sym none')
    (steps_carried alike (bare_map rs (m.note i q n) others none bare.1) rest))
steps_carried {m' = m'} {i = i} {j = j} alike bare (read {q = q} r new is rest) =
    let on : (i + 1 ≡ i + 1) × (m'.move j q ≡ reads r (j + 1)) = subst (λ x. Carried i j x (m'.move j q)) is (alike.moves q) in
    read r new on.1 (steps_carried alike bare.1 rest)

-- ---- a haystack with the position

abbrev no_bytes : List ℕ
no_bytes = []

-- its byte is there, and its assertions hold everywhere
abbrev pub sample : Place → Option ℕ → Haystack walks.Look
sample place None = record { content = no_bytes; low = 0; high = place.at; holds = λ l j. is_among place.looks l }
sample place (Some b) = record (with_byte place.at b) { holds = λ l j. is_among place.looks l }

nothing_there : (i : ℕ) → slice_get (drop i (take i no_bytes)) 0 ≡ None
nothing_there zero = refl
nothing_there (suc i) = refl

pub is_sample : (states : List State) (place : Place) (o : Option ℕ) → place.byte ≡ o → IsPlace states (sample place o) place.at place
is_sample states place None byte = record {
  at = refl;
  inside = within_is 0 place.at place.at (omega arith) (omega arith);
  byte = nothing_there place.at ∙ sym byte;
  looks = λ l asks. refl;
}
is_sample states place (Some b) byte = record {
  at = refl;
  inside = within_is 0 (suc place.at) place.at (omega arith) (omega arith);
  byte = last_of place.at b ∙ sym byte;
  looks = λ l asks. refl;
}

pub end_is : (i j : ℕ) (o : Option ℕ) (slots : Slots) → bare_end i (met_at j o slots) ≡ met_at i o []
end_is i j None slots = refl
end_is i j (Some k) slots = refl

pub steps_are_alike : (p : ByteProgram) → StepsAreAlike p
steps_are_alike p place other threads next ended slots bare alike list h i there =
    let h0 = sample place place.byte in
    let here : IsPlace p.states h0 place.at place = is_sample p.states place place.byte refl in
    subst (λ x. Steps (slot_machine p h) i [] threads next x) (end_is i place.at ended slots)
    (steps_carried (go_alike p h0 h place.at i place other here there alike) bare (list h0 place.at here))

-- ---- no byte is read

abbrev NoRead : Move (ℕ × ℕ) → Type 0
NoRead (ends k) = Unit {0}
NoRead (goes rs) = Unit {0}
NoRead (reads r l) = ⊥

only_no_read : (b : Bool) (rs : List (ℕ × ℕ)) → NoRead (only_if b (goes rs))
only_no_read true rs = tt
only_no_read false rs = tt

move_no_read : (place : Place) (i : ℕ) (q : ℕ × ℕ) (x : State) → place.byte ≡ None → NoRead (move_at place i q x)
move_no_read place i q (state.Ranges automaton r) none = subst (λ o. NoRead (read_next (step_of automaton.value) q.0 r q.1 i o)) (sym none) tt
move_no_read place i q (state.Look asked r) none = only_no_read (is_among place.looks (place_of asked)) (first_node r ∷ [])
move_no_read place i q (state.Empty r) none = tt
move_no_read place i q (state.BinaryUnion a b) none = tt
move_no_read place i q (state.Union alternates) none = tt
move_no_read place i q (state.Capture slot r) none = tt
move_no_read place i q (state.Match k) none = tt

pub steps_end : (p : ByteProgram) → StepsEnd p
steps_end p place threads next ended slots none list =
    let h0 = sample place place.byte in
    let here : IsPlace p.states h0 place.at place = is_sample p.states place place.byte refl in
    none_read (λ q r is. by_state h0 here q r (slice_get p.states q.0) refl is) (list h0 place.at here)
  where
    by_state : (h : Haystack walks.Look) → IsPlace p.states h place.at place → (q r : ℕ × ℕ) (o : Option State) → slice_get p.states q.0 ≡ o → (slot_machine p h).move place.at q ≡ reads r (place.at + 1) → ⊥
    by_state h here q r None at is = subst NoRead (sym ((moves_at_place p h place.at place here).elsewhere q at) ∙ is) tt
    by_state h here q r (Some x) at is = subst NoRead (sym ((moves_at_place p h place.at place here).at_state q x at) ∙ is) (move_no_read place place.at q x none)
