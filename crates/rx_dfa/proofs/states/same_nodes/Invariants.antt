use Rattle.rx_dfa.proofs.BareLaws.{SameUpTo}
use Rattle.rx_dfa.proofs.states.same_nodes.Given as goal

-- this many nodes are equal
abbrev pub invariant-loop-index : goal.invariant-loop-index
invariant-loop-index l = record {
  same : SameUpTo l.threads.threads l.others.threads l.index;
}
