use Rattle.std.proofs.Common.{◌≡◌, ℕ, ◌≤◌, ◌∷◌, ◌++◌, List, All, length}
use Rattle.rx_walks.specs.Machines.{Machine}
use Rattle.rx_steps.specs.Nodes.{widths_of, node_count, AreCounted}
use Rattle.rx_steps.specs.Threads.{Slots, Thread, IsThreadOf}
use Rattle.rx_steps.specs.Lists.{MakesMoves, AreUnderWay, work_left}
use Rattle.rx_steps.proofs.stepper.Closure.follow.Given as goal

-- the step is under way with the threads that wait
abbrev pub invariant-loop-state : goal.invariant-loop-state
invariant-loop-state l = record {
  followed : (m : Machine (ℕ × ℕ) Slots) (i : ℕ) (threads others : List Thread)
      → MakesMoves m i l.program.states l.place
      → AreUnderWay m i threads (widths_of l.program) l.fn.self.visited.ids ((l.fn.slots, l.fn.node) ∷ others) l.fn.next.threads
      → AreUnderWay m i threads (widths_of l.program) l.self.visited.ids (l.self.pending.threads ++ others) l.next.threads;
  threads : All (IsThreadOf l.program.states) l.fn.next.threads → All (IsThreadOf l.program.states) l.next.threads;
  widths : l.self.visited.widths ≡ l.fn.self.visited.widths;
  slots : length l.self.pending.slots ≡ l.next.slot_len;
  slot_len : l.next.slot_len ≡ l.fn.next.slot_len;
  counted : AreCounted l.fn.self.visited l.self.visited;
  room : length l.fn.self.visited.ids ≤ node_count l.program → length l.self.visited.ids ≤ node_count l.program;
}

abbrev pub decreases-loop-state : goal.decreases-loop-state
decreases-loop-state l = work_left l.program l.self.visited.ids l.self.pending.size
