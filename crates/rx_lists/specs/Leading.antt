-- The leading nodes, offset by offset from the last one back.
use Rattle.std.specs.Prelude.{◌≡◌, ℕ, ◌<◌, ◌≤◌, ◌++◌, Bool, true, false, List, [], ◌∷◌}
use Rattle.std.specs.Prelude.{length, Some, None, slice_get, Contains}
use Rattle.rx_walks.specs.Machines.{Machine, Move, ends, goes, reads}
use Rattle.rx_walks.specs.Leading.{LeadsToMatch, LeadsBy}
use Rattle.rx_walks.specs.Finds.{Search}
use Rattle.rx_program.specs.Programs.{ByteProgram}
use Rattle.rx_program.specs.declared.states.State.{State}
use Rattle.rx_steps.specs.declared.place.Place.{Place}
use Rattle.rx_steps.specs.Nodes.{widths_of, node_count, index_from, IsNodeIn}
use Rattle.rx_steps.specs.Threads.{Slots}
use Rattle.rx_steps.specs.Lists.{move_at}
use Rattle.rx_steps.specs.Coming.{machine_in}

-- these are the nodes of a program that lead to a match from an offset of a search
pub record AreLeading (p : ByteProgram) (s : Search) (i : ℕ) (nodes : List (ℕ × ℕ)) : Type 0 where
  pub leads : (q : ℕ × ℕ) → Contains nodes q → LeadsToMatch (machine_in p s) q i
  pub all : (q : ℕ × ℕ) → IsNodeIn p.states q → LeadsToMatch (machine_in p s) q i
      → Contains nodes q

-- ---- an offset, from the one after it

-- a move leads on: a match ends, or an edge leads to one of the nodes here, or a read to one of
-- those beyond
abbrev pub LeadsOn : List (ℕ × ℕ) → List (ℕ × ℕ) → Move (ℕ × ℕ) → Type 0
LeadsOn here beyond (ends k) = Unit {0}
LeadsOn here beyond (goes rs) = (k : ℕ) × (r : ℕ × ℕ) × (slice_get rs k ≡ Some r) × Contains here r
LeadsOn here beyond (reads r j) = Contains beyond r

-- a machine makes the moves of a program's states at a position
pub record Moves (m : Machine (ℕ × ℕ) Slots) (i : ℕ) (states : List State) (place : Place)
    : Type 0 where
  pub at_state : (q : ℕ × ℕ) (x : State) → slice_get states q.0 ≡ Some x
      → m.move i q ≡ move_at place i q x
  pub elsewhere : (q : ℕ × ℕ) → slice_get states q.0 ≡ None → m.move i q ≡ goes []

-- the nodes here are those that lead because of those beyond
pub record AreFilled (p : ByteProgram) (place : Place) (beyond here : List (ℕ × ℕ)) : Type 0 where
  pub leads : (m : Machine (ℕ × ℕ) Slots) (i : ℕ) → Moves m i p.states place
      → (q : ℕ × ℕ) → Contains here q → LeadsBy m i (λ r. Contains beyond r) q
  pub all : (m : Machine (ℕ × ℕ) Slots) (i : ℕ) → Moves m i p.states place
      → (q : ℕ × ℕ) → IsNodeIn p.states q → LeadsBy m i (λ r. Contains beyond r) q
      → Contains here q

-- ---- node by node

-- a node was checked: it was added because it leads on, or it was not
abbrev pub IsLookedAt : ByteProgram → Place → ℕ × ℕ → List (ℕ × ℕ) → List (ℕ × ℕ) → List (ℕ × ℕ)
    → Bool → Type 0
IsLookedAt p place q beyond old new true = (new ≡ old ++ q ∷ []) × (length new ≤ node_count p)
    × ((x : State) × (slice_get p.states q.0 ≡ Some x)
    × ((i : ℕ) → LeadsOn old beyond (move_at place i q x)))
IsLookedAt p place q beyond old new false = (new ≡ old)
    × ((k i : ℕ) (x : State) → index_from 0 (widths_of p) q.0 q.1 ≡ Some k
    → slice_get p.states q.0 ≡ Some x → LeadsOn old beyond (move_at place i q x)
    → Contains old q)

-- each node here leads because of those beyond
abbrev pub AreSound : ByteProgram → Place → List (ℕ × ℕ) → List (ℕ × ℕ) → Type 0
AreSound p place beyond here = (m : Machine (ℕ × ℕ) Slots) (i : ℕ) → Moves m i p.states place
    → (q : ℕ × ℕ) → Contains here q → LeadsBy m i (λ r. Contains beyond r) q

-- each of these nodes that leads on is here
abbrev pub AreClosed : ByteProgram → Place → List (ℕ × ℕ) → List (ℕ × ℕ) → (ℕ × ℕ → Type 0) → Type 0
AreClosed p place beyond here those = (q : ℕ × ℕ) → those q → (k i : ℕ) (x : State)
    → index_from 0 (widths_of p) q.0 q.1 ≡ Some k → slice_get p.states q.0 ≡ Some x
    → LeadsOn here beyond (move_at place i q x) → Contains here q

-- a move has an epsilon transition to a node
abbrev pub GoesTo : Move (ℕ × ℕ) → ℕ × ℕ → Type 0
GoesTo (ends k) r = ⊥
GoesTo (goes rs) r = (n : ℕ) × (slice_get rs n ≡ Some r)
GoesTo (reads next j) r = ⊥

-- the nodes are of states of a program
abbrev pub AreReal : ByteProgram → List (ℕ × ℕ) → Type 0
AreReal p nodes = (q : ℕ × ℕ) → Contains nodes q → q.0 < length p.states

-- those nodes were checked, and exactly those that lead on were added
pub record IsRound (p : ByteProgram) (place : Place) (those : ℕ × ℕ → Type 0)
    (beyond old new : List (ℕ × ℕ)) : Type 0 where
  pub sound : AreSound p place beyond old → AreSound p place beyond new
  pub kept : (k : ℕ) (q : ℕ × ℕ) → slice_get old k ≡ Some q → slice_get new k ≡ Some q
  pub reached : (q : ℕ × ℕ) → those q → (k i : ℕ) (x : State)
      → index_from 0 (widths_of p) q.0 q.1 ≡ Some k → slice_get p.states q.0 ≡ Some x
      → LeadsOn old beyond (move_at place i q x) → Contains new q
  pub room : length old ≤ node_count p → length new ≤ node_count p
  pub real : AreReal p old → AreReal p new
