use Rattle.std.proofs.Common.{◌≡◌, ◌++◌, take}
use Rattle.ropey_tree.specs.Children.{views}
use Rattle.ropey_tree.proofs.children.append_copies.Given as goal

abbrev pub invariant-loop-node : goal.invariant-loop-node
invariant-loop-node l = views l.nodes.items ≡ views l.fn.nodes.items ++ views (take l.node-index l.more)
