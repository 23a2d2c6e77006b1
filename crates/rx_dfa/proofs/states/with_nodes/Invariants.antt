use Rattle.std.proofs.Common.{◌≡◌, take}
use Rattle.rx_dfa.specs.Hashes.{with_nodes}
use Rattle.rx_dfa.proofs.states.with_nodes.Given as goal

-- this many nodes are mixed in
abbrev pub invariant-loop-index : goal.invariant-loop-index
invariant-loop-index l = record {
  hash : l.hash ≡ with_nodes l.fn.hash (take l.index l.threads.threads);
}
