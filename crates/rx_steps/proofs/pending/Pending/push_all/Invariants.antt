use Rattle.std.proofs.Common.{◌≡◌, ◌+◌, ◌++◌, ◌≤◌, map, length}
use Rattle.rx_steps.specs.Threads.{first_node}
use Rattle.rx_steps.proofs.pending.Pending.push_all.Given as goal

-- the threads at the states that are left come before those that wait
abbrev pub invariant-loop-states : goal.invariant-loop-states
invariant-loop-states l = record {
  fewer : length l.states ≤ length l.fn.states;
  slots : l.self.slots ≡ l.fn.self.slots;
  threads : map (λ q. (l.fn.self.slots, q)) (map first_node l.states) ++ l.self.threads
      ≡ map (λ q. (l.fn.self.slots, q)) (map first_node l.fn.states) ++ l.fn.self.threads;
  size : length l.states + l.self.size ≡ length l.fn.states + l.fn.self.size;
}

abbrev pub decreases-loop-states : goal.decreases-loop-states
decreases-loop-states l = length l.states
