use Rattle.std.proofs.Common.{◌≡◌, ◌++◌, drop, map}
use Rattle.rx_steps.specs.Nodes.{width_of, node_starts, end_from}
use Rattle.rx_steps.specs.Reversed.{state_of}
use Rattle.rx_steps.proofs.reverse_stepper.starts_of.Given as goal

-- the starts so far, and those from the end so far on
abbrev pub invariant-loop-state : goal.invariant-loop-state
invariant-loop-state l = record {
  starts : l.starts.items ++ node_starts l.end (map width_of (map state_of (drop l.state-index l.states)))
      ≡ node_starts 0 (map width_of (map state_of l.states));
  end : end_from l.end (map width_of (map state_of (drop l.state-index l.states)))
      ≡ end_from 0 (map width_of (map state_of l.states));
}
