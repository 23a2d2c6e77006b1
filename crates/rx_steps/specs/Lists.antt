-- The step from the ordered nodes at an offset to those at the next one.
use Rattle.std.specs.Prelude.{◌≡◌, ℕ, ◌+◌, ◌-◌, ◌*◌, Bool, true, List, [], ◌∷◌, ◌++◌, length, map, max, reverse, Option, Some, None, option_map, slice_get, Contains}
use Rattle.rx_program.specs.declared.states.State.{State}
use Rattle.rx_program.specs.declared.states.State.TheVariants as state
use Rattle.rx_program.specs.Programs.{ByteProgram, character_program, automata_of}
use Rattle.rx_program.specs.Code.{place_of}
use Rattle.rx_utf8.specs.Automata.{step_of}
use Rattle.rx_walks.specs.Machines.{Move, ends, goes, reads, Machine, Outcome}
use Rattle.rx_walks.specs.Looks as walks
use Rattle.rx_walks.specs.Looks.{start_text, end_text, start_line, end_line, word_boundary, no_word_boundary, holds_between}
use Rattle.unicode.specs.Perl.{is_word_char}
use Rattle.rx_walks.specs.Programs.{Haystack, only_if, is_within, left_from}
use Rattle.rx_walks.specs.Bytes.{read_on, over_bytes}
use Rattle.rx_walks.specs.Steps.{Steps, StepsSoFar, Thins}
use Rattle.rx_grammar.specs.declared.hir.Look as grammar
use Rattle.rx_steps.specs.declared.place.Looks.{Looks}
use Rattle.rx_steps.specs.declared.place.Place.{Place}
use Rattle.rx_steps.specs.Nodes.{index_from, node_count}
use Rattle.rx_steps.specs.Threads.{Slots, Thread, Waiting, note_slot, first_node}

-- whether an assertion is among those that hold
abbrev pub is_among : Looks → walks.Look → Bool
is_among looks start_text = looks.start
is_among looks end_text = looks.end
is_among looks start_line = looks.start_line
is_among looks end_line = looks.end_line
is_among looks word_boundary = looks.word_boundary
is_among looks no_word_boundary = looks.no_word_boundary

-- these assertions hold between the bytes before and after an offset
abbrev pub HoldBetween : Looks → List ℕ → List ℕ → ℕ → Type 0
HoldBetween looks before after terminator =
    (l : walks.Look)
    → is_among looks l ≡ holds_between is_word_char terminator l (reverse before) after

-- some state of a program is this assertion
pub record Asks (states : List State) (l : walks.Look) : Type 0 where
  pub number : ℕ
  pub asked : grammar.Look
  pub next : ℕ
  pub stands : slice_get states number ≡ Some (state.Look asked next)
  pub is : place_of asked ≡ l

-- a position in a haystack: its offset is one that walks can reach, this byte is the next one, and
-- these of the program's assertions hold
pub record IsPlace (states : List State) (h : Haystack walks.Look) (i : ℕ) (place : Place)
    : Type 0 where
  pub at : place.at ≡ i
  pub inside : is_within h.low h.high i ≡ true
  pub byte : slice_get (left_from h i) 0 ≡ place.byte
  pub looks : (l : walks.Look) → Asks states l → h.holds l i ≡ is_among place.looks l

-- the machine of a program over bytes, whose walks write offsets into slots
abbrev pub slot_machine : ByteProgram → Haystack walks.Look → Machine (ℕ × ℕ) Slots
slot_machine p h = over_bytes note_slot (automata_of p) (character_program p).nodes h

abbrev pub met_at : ℕ → Option ℕ → Slots → Option (Outcome Slots)
met_at i met slots = option_map (λ k. record { pattern = k; end = i; notes = slots }) met

-- the step from these threads gives others, in order, and the pattern and the slots of the match
-- that ends
abbrev pub IsNextList : ByteProgram → Place → List Thread → List Thread → Option ℕ → Slots → Type 0
IsNextList p place threads next met slots =
    (h : Haystack walks.Look) (i : ℕ) → IsPlace p.states h i place
    → Steps (slot_machine p h) i [] threads next (met_at i met slots)

-- ---- inside a step

abbrev pub read_next : (ℕ → ℕ → Option (Option ℕ)) → ℕ → ℕ → ℕ → ℕ → Option ℕ → Move (ℕ × ℕ)
read_next step q r s i None = goes []
read_next step q r s i (Some b) = read_on q r i (step s b)

-- the move at a state
abbrev pub move_at : Place → ℕ → ℕ × ℕ → State → Move (ℕ × ℕ)
move_at place i q (state.Ranges automaton r) =
    read_next (step_of automaton.value) q.0 r q.1 i place.byte
move_at place i q (state.Look asked r) =
    only_if (is_among place.looks (place_of asked)) (goes (first_node r ∷ []))
move_at place i q (state.Empty r) = goes (first_node r ∷ [])
move_at place i q (state.BinaryUnion first second) =
    goes (first_node first ∷ first_node second ∷ [])
move_at place i q (state.Union alternates) = goes (map first_node alternates.items)
move_at place i q (state.Capture slot r) = goes (first_node r ∷ [])
move_at place i q (state.Match k) = ends k

-- the slots after a state's epsilon transition
abbrev pub noted_at : Place → State → Slots → Slots
noted_at place (state.Capture slot r) slots = note_slot slot place.at slots
noted_at place _ slots = slots

-- A move is made at a node with the current slots: a match ends, or threads with the written slots
-- are put before those that wait, or a thread goes into the next list.
abbrev pub IsMade : Move (ℕ × ℕ) → Slots → Option ℕ → Waiting → Waiting → List Thread → List Thread
    → Type 0
IsMade (ends k) noted met w w' next next' =
    (met ≡ Some k) × (w'.slots ≡ w.slots) × (next' ≡ next) × (w'.threads ≡ w.threads)
IsMade (goes rs) noted met w w' next next' =
    (met ≡ None) × (w'.threads ≡ map (λ r. (noted, r)) rs ++ w.threads) × (next' ≡ next)
IsMade (reads r j) noted met w w' next next' =
    (met ≡ None) × (w'.threads ≡ w.threads) × (next' ≡ next ++ (w.slots, r) ∷ [])

-- the greatest number of transitions of a state
abbrev pub fan_of : State → ℕ
fan_of (state.Union alternates) = length alternates.items
fan_of _ = 2

abbrev pub widest_fan : List State → ℕ
widest_fan [] = 0
widest_fan (x ∷ states) = max (fan_of x) (widest_fan states)

-- an upper bound on how many nodes are still followed, from the indices seen and the size of the
-- stack
abbrev pub work_left : ByteProgram → List ℕ → ℕ → ℕ
work_left p ids size = (node_count p - length ids) * (widest_fan p.states + 1) + size

-- a machine makes these moves at a position and writes these slots
pub record MakesMoves (m : Machine (ℕ × ℕ) Slots) (i : ℕ) (states : List State) (place : Place)
    : Type 0 where
  pub at_state : (q : ℕ × ℕ) (x : State) → slice_get states q.0 ≡ Some x
      → m.move i q ≡ move_at place i q x
  pub elsewhere : (q : ℕ × ℕ) → slice_get states q.0 ≡ None → m.move i q ≡ goes []
  pub notes : (q : ℕ × ℕ) (x : State) → slice_get states q.0 ≡ Some x → (slots : Slots)
      → m.note i q slots ≡ noted_at place x slots

-- the set of indices has those of the nodes that were seen
abbrev pub Tells : List ℕ → List ℕ → List (ℕ × ℕ) → Type 0
Tells widths ids seen = (q : ℕ × ℕ) (k : ℕ) → index_from 0 widths q.0 q.1 ≡ Some k
    → (Contains seen q → Contains ids k) × (Contains ids k → Contains seen q)

-- a step from these threads is under way: what was seen, what is left, and what was put into the
-- next list
pub record AreUnderWay {N : Type 0} (m : Machine (ℕ × ℕ) N) (i : ℕ) (threads : List (N × (ℕ × ℕ)))
    (widths ids : List ℕ) (left out : List (N × (ℕ × ℕ))) : Type 0 where
  pub seen : List (ℕ × ℕ)
  pub tells : Tells widths ids seen
  pub so_far : StepsSoFar m i threads seen left out

-- after a node was followed: the step is still under way, or it has met a match end
abbrev pub AreFollowed : Machine (ℕ × ℕ) Slots → ℕ → List Thread → List ℕ → List ℕ → List Thread
    → List Thread → Slots → Option ℕ → Type 0
AreFollowed m i threads widths ids left out slots None = AreUnderWay m i threads widths ids left out
AreFollowed m i threads widths ids left out slots (Some k) =
    Steps m i [] threads out (met_at i (Some k) slots)

-- threads are thinned: of these, what was seen, what is left, and what was kept
pub record IsThinning (threads : List Thread) (widths ids : List ℕ) (left out : List Thread)
    : Type 0 where
  pub seen : List (ℕ × ℕ)
  pub tells : Tells widths ids seen
  pub so_far : (rest : List Thread) → Thins seen left rest → Thins [] threads (out ++ rest)
