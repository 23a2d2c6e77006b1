use Rattle.std.proofs.Common.{◌≡◌, ℕ, ◌+◌, ◌<◌, ◌≤◌, Some, length, slice_get, Contains}
use Rattle.rx_program.specs.declared.states.State.{State}
use Rattle.rx_steps.specs.Nodes.{width_of}
use Rattle.rx_lists.proofs.node_set.all_nodes.Given as goal

-- the nodes of as many of the last states were added
abbrev pub invariant-loop-done : goal.invariant-loop-done
invariant-loop-done l = (q s : ℕ) (x : State) → slice_get l.states q ≡ Some x → length l.states ≤ q + l.done → s < width_of x → Contains l.nodes.items (q, s)
