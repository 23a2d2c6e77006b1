-- Edges of the one-pass automaton: steps of a single thread, from its node and the next byte, that
-- leave a single thread or end a match.
use Rattle.std.specs.Prelude.{◌≡◌, ℕ, true, List, [], ◌∷◌, length, Option, Some, None, IfSome, slice_get}
use Rattle.rx_walks.specs.Looks as walks
use Rattle.rx_walks.specs.Machines.{Machine, Outcome}
use Rattle.rx_walks.specs.Programs.{Haystack, is_within, left_from}
use Rattle.rx_walks.specs.Steps.{Steps}
use Rattle.rx_program.specs.declared.states.State.{State}
use Rattle.rx_program.specs.Programs.{ByteProgram}
use Rattle.rx_steps.specs.declared.place.Place.{Place}
use Rattle.rx_steps.specs.Nodes.{IsNodeIn}
use Rattle.rx_steps.specs.Threads.{Slots, Thread, no_slots, note_slot}
use Rattle.rx_steps.specs.Lists.{Asks, IsNextList, slot_machine}
use Rattle.rx_onepass.specs.declared.noted.Noted.{Noted}
use Rattle.rx_onepass.specs.declared.edges.Way.{Way}
use Rattle.rx_onepass.specs.declared.edges.Edge.{Edge}

-- a slot that is marked gets the offset, another one keeps what it holds
abbrev pub mark : ℕ → Option ℕ → Option ℕ → Option ℕ
mark i None held = held
mark i (Some j) held = Some i

abbrev pub marked : ℕ → Slots → Slots → Slots
marked i [] slots = []
marked i (m ∷ marks) [] = []
marked i (m ∷ marks) (held ∷ slots) = mark i m held ∷ marked i marks slots

-- an offset is written into the slots that an edge notes
abbrev pub note_all : Noted → ℕ → Slots → Slots
note_all n i slots =
    note_slot n.first i (note_slot n.second i (note_slot n.third i (note_slot n.fourth i slots)))

abbrev pub note_if : Option Noted → ℕ → Slots → Slots
note_if None i slots = slots
note_if (Some n) i slots = note_all n i slots

-- a step of a single thread: it leaves one at this node, whatever match ends; or it leaves none,
-- and a match of this pattern ends. The slots are those of the thread or of the match.
abbrev pub StepsAloneTo : Machine (ℕ × ℕ) Slots → ℕ → Slots → ℕ × ℕ → Slots → ℕ
    → Option (ℕ × ℕ) → Type 0
StepsAloneTo m i slots q slots' k (Some r) = (met : Option (Outcome Slots))
    × Steps m i [] ((slots, q) ∷ []) ((slots', r) ∷ []) met
StepsAloneTo m i slots q slots' k None =
    Steps m i [] ((slots, q) ∷ []) [] (Some (record { pattern = k; end = i; notes = slots' }))

abbrev pub StepsAlone : Machine (ℕ × ℕ) Slots → ℕ → Slots → ℕ × ℕ → Slots → Way → Type 0
StepsAlone m i slots q slots' way = StepsAloneTo m i slots q slots' way.pattern way.node

-- the node that it leads to is one of the program
abbrev pub GoesToNode : List State → Way → Type 0
GoesToNode states way = IfSome way.node (IsNodeIn states)

-- an edge of a program, for threads with this number of slots: the step from its node before its
-- byte leads its way in every haystack, and notes its slots
pub record IsEdge (p : ByteProgram) (len : ℕ) (e : Edge) : Type 0 where
  pub leads : (h : Haystack walks.Look) (i : ℕ) (slots : Slots)
      → is_within h.low h.high i ≡ true → slice_get (left_from h i) 0 ≡ e.byte
      → length slots ≡ len
      → StepsAlone (slot_machine p h) i slots e.from (note_if e.noted i slots) e.way
  pub stands : GoesToNode p.states e.way

-- all known edges are edges of a program
abbrev pub AreEdges : ByteProgram → ℕ → List (Option Edge) → Type 0
AreEdges p len edges = (k : ℕ) (e : Edge) → slice_get edges k ≡ Some (Some e) → IsEdge p len e

-- the program has no assertion
abbrev pub AsksNothing : List State → Type 0
AsksNothing states = (l : walks.Look) → Asks states l → ⊥

-- the step of a thread with empty slots, which marks slots with the offset
pub record IsLed (p : ByteProgram) (place : Place) (q : ℕ × ℕ) (len : ℕ) (marks : Slots) (r : ℕ × ℕ)
    : Type 0 where
  pub met : Option ℕ
  pub slots : Slots
  pub list : IsNextList p place ((no_slots len, q) ∷ []) ((marks, r) ∷ []) met slots

abbrev pub StepsFreshTo : ByteProgram → Place → ℕ × ℕ → ℕ → Slots → ℕ → Option (ℕ × ℕ)
    → Type 0
StepsFreshTo p place q len marks k (Some r) = IsLed p place q len marks r
StepsFreshTo p place q len marks k None =
    IsNextList p place ((no_slots len, q) ∷ []) [] (Some k) marks

abbrev pub StepsFresh : ByteProgram → Place → ℕ × ℕ → ℕ → Slots → Way → Type 0
StepsFresh p place q len marks way = StepsFreshTo p place q len marks way.pattern way.node

-- a step that leaves these threads, and meets this match end, leads this way
abbrev pub IsWayTo : List Thread → Option ℕ → ℕ → Option (ℕ × ℕ) → Type 0
IsWayTo threads met k (Some r) = (marks : Slots) × (threads ≡ (marks, r) ∷ [])
IsWayTo threads met k None = (threads ≡ []) × (met ≡ Some k)

abbrev pub IsWayOf : List Thread → Option ℕ → Way → Type 0
IsWayOf threads met way = IsWayTo threads met way.pattern way.node

-- the slots that are marked are those that an edge notes
abbrev pub AreNotedBy : Slots → Option Noted → Type 0
AreNotedBy marks noted = (i : ℕ) (slots : Slots) → length slots ≡ length marks
    → marked i marks slots ≡ note_if noted i slots
