use Rattle.std.proofs.Common.{ℕ, ◌<◌, Contains}
use Rattle.rx_lists.proofs.node_set.push_within.Given as goal

-- the nodes up to this one were added
abbrev pub invariant-loop-within : goal.invariant-loop-within
invariant-loop-within l = record {
  these : (s : ℕ) → s < l.within → Contains l.nodes.items (l.id, s);
  others : (q : ℕ × ℕ) → Contains l.initial.nodes.items q → Contains l.nodes.items q;
}
