use Rattle.std.proofs.Common.{◌≡◌, ℕ, ◌≤◌, ◌∷◌, [], All, length}
use Rattle.rx_steps.specs.Nodes.{node_count, AreCounted}
use Rattle.rx_steps.specs.Threads.{IsThreadOf}
use Rattle.rx_steps.specs.Lists.{work_left}
use Rattle.rx_steps.specs.ListsAll.{FollowsAll, end_met_by, nodes_of}
use Rattle.rx_steps.specs.Reversed.{byte_program_of}
use Rattle.rx_steps.proofs.stepper.Closure.follow_back.Given as goal

-- the nodes at which threads wait are left
abbrev pub invariant-loop-state : goal.invariant-loop-state
invariant-loop-state l = record {
  followed : (start : ℕ) → FollowsAll (byte_program_of l.program) l.place start (l.fn.node ∷ []) (nodes_of l.self.pending.threads) l.fn.self.visited.ids l.self.visited.ids l.fn.next.threads l.next.threads (end_met_by start l.best);
  threads : All (IsThreadOf (byte_program_of l.program).states) l.fn.next.threads → All (IsThreadOf (byte_program_of l.program).states) l.next.threads;
  widths : l.self.visited.widths ≡ l.fn.self.visited.widths;
  slots : l.self.pending.slots ≡ [];
  slot_len : l.next.slot_len ≡ l.fn.next.slot_len;
  counted : AreCounted l.fn.self.visited l.self.visited;
  room : length l.fn.self.visited.ids ≤ node_count (byte_program_of l.program) → length l.self.visited.ids ≤ node_count (byte_program_of l.program);
}

abbrev pub decreases-loop-state : goal.decreases-loop-state
decreases-loop-state l = work_left (byte_program_of l.program) l.self.visited.ids l.self.pending.size
