use Rattle.std.proofs.Common.{◌≡◌, ℕ, ◌+◌, ◌≤◌, All, List, length, drop}
use Rattle.rx_walks.specs.Machines.{Machine}
use Rattle.rx_walks.specs.Programs.{Notes}
use Rattle.rx_steps.specs.Nodes.{widths_of, node_count}
use Rattle.rx_steps.specs.ListsAll.{AreUnderWayAll, IsBestMet, IsStartedOf, MovesSo}
use Rattle.rx_steps.proofs.stepper.Stepper.next_list_all.Given as goal

-- the step is under way with the threads that are left
abbrev pub invariant-loop-thread : goal.invariant-loop-thread
invariant-loop-thread l = record {
  way : (m : Machine (ℕ × ℕ) Notes) (i : ℕ) → MovesSo m i l.program.states l.place
      → (ends : List (ℕ × ℕ)) × IsBestMet ends l.best
      × AreUnderWayAll m i l.threads (widths_of l.program) l.self-inside.closure.visited.ids (drop l.thread-index l.threads) l.next.items ends;
  threads : All (IsStartedOf l.program.states) l.next.items;
  widths : l.self-inside.closure.visited.widths ≡ widths_of l.program;
  counted : l.self-inside.closure.visited.followed ≡ l.fn.self.followed + length l.self-inside.closure.visited.ids;
  room : length l.self-inside.closure.visited.ids ≤ node_count l.program;
}
