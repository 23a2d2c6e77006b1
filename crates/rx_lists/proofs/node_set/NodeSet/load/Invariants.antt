use Rattle.std.proofs.Common.{◌≡◌, ℕ, ◌<◌, Some, slice_get, Contains}
use Rattle.rx_steps.specs.Nodes.{index_from}
use Rattle.rx_lists.specs.Bits.{HasNode}
use Rattle.rx_lists.proofs.node_set.NodeSet.load.Given as goal

-- those of these nodes up to this one that are in the set are there, and no others
abbrev pub invariant-loop-node : goal.invariant-loop-node
invariant-loop-node l = record {
  these : (q : ℕ × ℕ) → Contains l.self.nodes q → HasNode l.index l.set q;
  all : (j : ℕ) → j < l.node-index → (q : ℕ × ℕ) (k : ℕ) → slice_get l.nodes j ≡ Some q → HasNode l.index l.set q → index_from 0 l.self.widths q.0 q.1 ≡ Some k → Contains l.self.nodes q;
  widths : l.self.widths ≡ l.fn.self.widths;
}
