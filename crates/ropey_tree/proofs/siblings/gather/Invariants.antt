use Rattle.std.proofs.Common.{◌≡◌, length, take}
use Rattle.ropey_tree.specs.Siblings.{views}
use Rattle.ropey_tree.proofs.siblings.gather.Given as goal

abbrev pub invariant-loop-node : goal.invariant-loop-node
invariant-loop-node l = (l.children ≡ views (take l.node-index l.nodes)) × (length l.children ≡ l.node-index)
