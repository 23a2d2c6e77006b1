use Rattle.std.proofs.Common.{◌≡◌, ℕ, ◌*◌, ◌<◌, ◌≤◌, Some, length, slice_get, Contains}
use Rattle.rx_steps.specs.Nodes.{index_from, end_from}
use Rattle.rx_lists.specs.Bits.{HasNode}
use Rattle.rx_lists.proofs.node_index.NodeIndex.set_of.Given as goal

-- the nodes up to this one are there, and no others
abbrev pub invariant-loop-node : goal.invariant-loop-node
invariant-loop-node l = record {
  these : (q : ℕ × ℕ) → HasNode l.self l.set q → Contains l.nodes q;
  all : (j : ℕ) → j < l.node-index → (q : ℕ × ℕ) (k : ℕ) → slice_get l.nodes j ≡ Some q → index_from 0 l.self q.0 q.1 ≡ Some k → HasNode l.self l.set q;
  room : end_from 0 l.self ≤ 64 * length l.set;
}
