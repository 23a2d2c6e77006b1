use Rattle.std.proofs.Common.{◌≡◌, ◌≤◌, length, reverse}
use Rattle.rx_steps.specs.Frames.{waiting}
use Rattle.rx_steps.proofs.pending.Pending.pop.Given as goal

-- the same threads wait, though slots were restored
abbrev pub invariant-loop-frame : goal.invariant-loop-frame
invariant-loop-frame l = record {
  threads : waiting l.self-inside.slots.items (reverse l.self-inside.stack.items) ≡ l.fn.self.threads;
  slots : length l.self-inside.slots.items ≡ length l.fn.self.slots;
  size : length l.self-inside.stack.items ≤ l.fn.self.size;
}

abbrev pub decreases-loop-frame : goal.decreases-loop-frame
decreases-loop-frame l = length l.self-inside.stack.items
