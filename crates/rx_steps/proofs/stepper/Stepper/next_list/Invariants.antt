use Rattle.std.proofs.Common.{◌≡◌, ℕ, ◌+◌, ◌≤◌, All, length, drop}
use Rattle.rx_walks.specs.Machines.{Machine}
use Rattle.rx_steps.specs.Nodes.{widths_of, node_count}
use Rattle.rx_steps.specs.Threads.{Slots, IsThreadOf}
use Rattle.rx_steps.specs.Lists.{MakesMoves, AreUnderWay}
use Rattle.rx_steps.proofs.stepper.Stepper.next_list.Given as goal

-- the step is under way with the threads that are left
abbrev pub invariant-loop-index : goal.invariant-loop-index
invariant-loop-index l = record {
  way : (m : Machine (ℕ × ℕ) Slots) (i : ℕ) → MakesMoves m i l.program.states l.place
      → AreUnderWay m i l.threads.threads (widths_of l.program) l.self-inside.closure.visited.ids (drop l.index l.threads.threads) l.next.threads;
  threads : All (IsThreadOf l.program.states) l.next.threads;
  widths : l.self-inside.closure.visited.widths ≡ widths_of l.program;
  slot_len : l.next.slot_len ≡ l.threads.slot_len;
  counted : l.self-inside.closure.visited.followed ≡ l.fn.self.followed + length l.self-inside.closure.visited.ids;
  room : length l.self-inside.closure.visited.ids ≤ node_count l.program;
}
