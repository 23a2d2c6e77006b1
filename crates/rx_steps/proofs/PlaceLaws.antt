-- The moves of a program's machine at an offset, and a step from its start to its end.
use Rattle.std.proofs.Common.{◌≡◌, ℕ, zero, suc, List, [], ◌∷◌, map, Some, None, slice_get, refl, sym, ap, subst, ◌∙◌}
use Rattle.std.proofs.lemmas.List.{append-nil}
use Rattle.rx_program.specs.declared.states.State.{State}
use Rattle.rx_program.specs.declared.states.State.TheVariants as state
use Rattle.rx_program.specs.Programs.{ByteProgram, node_of, automaton_of, automata_of}
use Rattle.rx_program.specs.Code.{place_of}
use Rattle.rx_utf8.specs.Automata.{step_of}
use Rattle.rx_walks.specs.Machines.{Machine, goes}
use Rattle.rx_walks.specs.Looks as walks
use Rattle.rx_walks.specs.Programs.{Haystack, only_if, left_from, note_at}
use Rattle.rx_walks.specs.Bytes.{Automaton, by_byte, read_byte}
use Rattle.rx_walks.specs.Steps.{Steps, done}
use Rattle.rx_steps.specs.declared.place.Place.{Place}
use Rattle.rx_steps.specs.Threads.{Slots, first_node, note_slot}
use Rattle.rx_steps.specs.Lists.{IsPlace, move_at, noted_at, read_next, slot_machine, MakesMoves, AreUnderWay}

node_at : (states : List State) (q : ℕ) (x : State) → slice_get states q ≡ Some x → slice_get (map node_of states) q ≡ Some (node_of x)
node_at [] q x e = absurd (cc e)
node_at (y ∷ states) zero x e = ap (λ z. Some (node_of z)) (the_state e)
  where
    the_state : Some y ≡ Some x → y ≡ x
    the_state g = cc g
node_at (y ∷ states) (suc q) x e = node_at states q x e

no_node : (states : List State) (q : ℕ) → slice_get states q ≡ None → slice_get (map node_of states) q ≡ None
no_node [] q e = refl
no_node (y ∷ states) zero e = absurd (cc e)
no_node (y ∷ states) (suc q) e = no_node states q e

pub reads_first : (step : Automaton) (q r s i : ℕ) (bytes : List ℕ) → read_byte step q r s i bytes ≡ read_next step q r s i (slice_get bytes 0)
reads_first step q r s i [] = refl
reads_first step q r s i (b ∷ bytes) = refl

moves_so : (p : ByteProgram) (h : Haystack walks.Look) (i : ℕ) (place : Place) (q : ℕ × ℕ) (x : State) → IsPlace p.states h i place → slice_get p.states q.0 ≡ Some x
    → by_byte (automata_of p) h i q.0 q.1 (Some (node_of x)) ≡ move_at place i q x
moves_so p h i place q (state.Ranges automaton r) here is =
    ap (λ o. read_byte (automaton_of o) q.0 r q.1 i (left_from h i)) is
    ∙ reads_first (step_of automaton.value) q.0 r q.1 i (left_from h i)
    ∙ ap (λ b. read_next (step_of automaton.value) q.0 r q.1 i b) here.byte
moves_so p h i place q (state.Look asked r) here is = ap (λ b. only_if b (goes (first_node r ∷ []))) (here.looks (place_of asked) (record { number = q.0; asked = asked; next = r; stands = is; is = refl }))
moves_so p h i place q (state.Empty r) here is = refl
moves_so p h i place q (state.BinaryUnion first second) here is = refl
moves_so p h i place q (state.Union alternates) here is = refl
moves_so p h i place q (state.Capture slot r) here is = refl
moves_so p h i place q (state.Match k) here is = refl

noted_so : (place : Place) (i : ℕ) (x : State) (slots : Slots) → place.at ≡ i → note_at note_slot i (Some (node_of x)) slots ≡ noted_at place x slots
noted_so place i (state.Ranges automaton r) slots e = refl
noted_so place i (state.Look asked r) slots e = refl
noted_so place i (state.Empty r) slots e = refl
noted_so place i (state.BinaryUnion first second) slots e = refl
noted_so place i (state.Union alternates) slots e = refl
noted_so place i (state.Capture slot r) slots e = ap (λ j. note_slot slot j slots) (sym e)
noted_so place i (state.Match k) slots e = refl

pub moves_at_place : (p : ByteProgram) (h : Haystack walks.Look) (i : ℕ) (place : Place) → IsPlace p.states h i place → MakesMoves (slot_machine p h) i p.states place
moves_at_place p h i place here = record {
  at_state = λ q x is. ap (λ b. only_if b (by_byte (automata_of p) h i q.0 q.1 (slice_get (map node_of p.states) q.0))) here.inside
      ∙ ap (λ o. by_byte (automata_of p) h i q.0 q.1 o) (node_at p.states q.0 x is)
      ∙ moves_so p h i place q x here is;
  elsewhere = λ q is. ap (λ b. only_if b (by_byte (automata_of p) h i q.0 q.1 (slice_get (map node_of p.states) q.0))) here.inside
      ∙ ap (λ o. by_byte (automata_of p) h i q.0 q.1 o) (no_node p.states q.0 is);
  notes = λ q x is slots. ap (λ o. note_at note_slot i o slots) (node_at p.states q.0 x is) ∙ noted_so place i x slots here.at;
}

pub over : {N : Type 0} (m : Machine (ℕ × ℕ) N) (i : ℕ) (widths ids : List ℕ) (threads next : List (N × (ℕ × ℕ))) → AreUnderWay m i threads widths ids [] next → Steps m i [] threads next None
over m i widths ids threads next way = subst (λ xs. Steps m i [] threads xs None) (append-nil next) (way.so_far [] None done)
