use Rattle.std.proofs.Common.{◌≡◌, ◌≤◌, ◌∷◌, [], All, length}
use Rattle.rx_steps.specs.Nodes.{node_count, AreCounted}
use Rattle.rx_steps.specs.Threads.{IsThreadOf}
use Rattle.rx_steps.specs.Lists.{work_left}
use Rattle.rx_steps.specs.ListsAll.{FollowsAll, nodes_of}
use Rattle.rx_steps.proofs.stepper.Closure.follow_all.Given as goal

-- the nodes at which threads wait are left
abbrev pub invariant-loop-state : goal.invariant-loop-state
invariant-loop-state l = record {
  followed : FollowsAll l.program l.place l.fn.from.0 (l.fn.from.1 ∷ []) (nodes_of l.self.pending.threads) l.fn.self.visited.ids l.self.visited.ids l.fn.next.threads l.next.threads l.best;
  threads : All (IsThreadOf l.program.states) l.fn.next.threads → All (IsThreadOf l.program.states) l.next.threads;
  widths : l.self.visited.widths ≡ l.fn.self.visited.widths;
  slots : length l.self.pending.slots ≡ l.next.slot_len;
  slot_len : l.next.slot_len ≡ l.fn.next.slot_len;
  start : l.start ≡ l.fn.from.0;
  counted : AreCounted l.fn.self.visited l.self.visited;
  room : length l.fn.self.visited.ids ≤ node_count l.program → length l.self.visited.ids ≤ node_count l.program;
}

abbrev pub decreases-loop-state : goal.decreases-loop-state
decreases-loop-state l = work_left l.program l.self.visited.ids l.self.pending.size
