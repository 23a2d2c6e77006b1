-- The step for all matches, from the nodes at an offset to those at the next one: no match end
-- stops other threads, and each has the offset at which it started.
use Rattle.std.specs.Prelude.{◌≡◌, ℕ, ◌≤◌, List, [], ◌++◌, map, Option, Some, None, option_map, slice_get}
use Rattle.rx_program.specs.declared.states.State.{State}
use Rattle.rx_program.specs.Programs.{ByteProgram, character_program, automata_of}
use Rattle.rx_walks.specs.Machines.{goes, Machine}
use Rattle.rx_walks.specs.Looks as walks
use Rattle.rx_walks.specs.Programs.{Haystack, Notes, put_note}
use Rattle.rx_walks.specs.Bytes.{over_bytes}
use Rattle.rx_walks.specs.StepsAll.{StepsAll, Met}
use Rattle.rx_steps.specs.declared.place.Place.{Place}
use Rattle.rx_steps.specs.declared.started.MetEnd.{MetEnd}
use Rattle.rx_steps.specs.Nodes.{widths_of, IsNodeIn}
use Rattle.rx_steps.specs.Threads.{Thread}
use Rattle.rx_steps.specs.Lists.{IsPlace, Tells, move_at}

-- the offset at which a thread started, and its node
abbrev pub Started : Type 0
Started = ℕ × (ℕ × ℕ)

-- a thread at a node of a program
abbrev pub IsStartedOf : List State → Started → Type 0
IsStartedOf states thread = IsNodeIn states thread.1

-- threads at these nodes that started at one offset, and the match ends of these patterns that did
abbrev pub started_at : ℕ → List (ℕ × ℕ) → List Started
started_at s nodes = map (λ q. (s, q)) nodes

abbrev pub ended_from : ℕ → List ℕ → List (ℕ × ℕ)
ended_from s patterns = map (λ k. (s, k)) patterns

-- the machine of a program over bytes
abbrev pub byte_machine : ByteProgram → Haystack walks.Look → Machine (ℕ × ℕ) Notes
byte_machine p h = over_bytes put_note (automata_of p) (character_program p).nodes h

-- of two match ends at one offset the first has the lesser start, or else the lesser pattern, or it
-- is the same
pub record IsNoWorse (one other : MetEnd) : Type 0 where
  pub by_start : one.start ≤ other.start
  pub by_pattern : one.start ≡ other.start → one.pattern ≤ other.pattern

-- of the match ends, each a start and a pattern, the one with the least start, then the least
-- pattern; none if there is none
abbrev pub IsBestMet : List (ℕ × ℕ) → Option MetEnd → Type 0
IsBestMet ends None = (s k : ℕ) → Met s k ends → ⊥
IsBestMet ends (Some best) = Met best.start best.pattern ends
    × ((s k : ℕ) → Met s k ends → IsNoWorse best (record { start = s; pattern = k }))

-- a step for all matches: from some threads it gives others, and the best of the match ends that it
-- meets
pub record IsStepAll {N : Type 0} (m : Machine (ℕ × ℕ) N) (i : ℕ) (threads next : List Started)
    (met : Option MetEnd) : Type 0 where
  pub ends : List (ℕ × ℕ)
  pub steps : StepsAll m i [] threads next ends
  pub best : IsBestMet ends met

-- that step at this position, in any haystack
abbrev pub IsNextListAll : ByteProgram → Place → List Started → List Started → Option MetEnd
    → Type 0
IsNextListAll p place threads next met =
    (h : Haystack walks.Look) (i : ℕ) → IsPlace p.states h i place
    → IsStepAll (byte_machine p h) i threads next met

-- ---- inside a step

-- this pattern's match end with this start, if there is one
abbrev pub end_met_by : ℕ → Option ℕ → Option MetEnd
end_met_by start pattern = option_map (λ k. record { start = start; pattern = k }) pattern

-- the nodes of threads
abbrev pub nodes_of : List Thread → List (ℕ × ℕ)
nodes_of threads = map (λ t. t.1) threads

-- a machine makes these moves at a position
pub record MovesSo {N : Type 0} (m : Machine (ℕ × ℕ) N) (i : ℕ) (states : List State)
    (place : Place) : Type 0 where
  pub at_state : (q : ℕ × ℕ) (x : State) → slice_get states q.0 ≡ Some x
      → m.move i q ≡ move_at place i q x
  pub elsewhere : (q : ℕ × ℕ) → slice_get states q.0 ≡ None → m.move i q ≡ goes []

-- a step for all matches from these threads is under way: what was seen, what is left, what was put
-- into the next list, and the match ends
pub record AreUnderWayAll {N : Type 0} (m : Machine (ℕ × ℕ) N) (i : ℕ) (threads : List Started)
    (widths ids : List ℕ) (left out : List Started) (ends : List (ℕ × ℕ)) : Type 0 where
  pub seen : List (ℕ × ℕ)
  pub tells : Tells widths ids seen
  pub so_far : (next : List Started) (more : List (ℕ × ℕ)) → StepsAll m i seen left next more
      → StepsAll m i [] threads (out ++ next) (ends ++ more)

-- The nodes that threads with one start have reached are followed until others are left: those of
-- `reached` are in the next list then, and matches of the patterns `ended` have ended, the best of
-- which is reported.
pub record FollowsAll (p : ByteProgram) (place : Place) (start : ℕ) (left left' : List (ℕ × ℕ))
    (ids ids' : List ℕ) (next next' : List Thread) (met : Option MetEnd) : Type 0 where
  pub reached : List (ℕ × ℕ)
  pub ended : List ℕ
  pub put : nodes_of next' ≡ nodes_of next ++ reached
  pub best : IsBestMet (ended_from start ended) met
  pub goes_on : (m : Machine (ℕ × ℕ) Notes) (i : ℕ) (threads others out : List Started)
      (ends : List (ℕ × ℕ)) → MovesSo m i p.states place
      → AreUnderWayAll m i threads (widths_of p) ids (started_at start left ++ others) out ends
      → AreUnderWayAll m i threads (widths_of p) ids' (started_at start left' ++ others)
      (out ++ started_at start reached) (ends ++ ended_from start ended)
