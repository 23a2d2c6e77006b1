use Rattle.std.proofs.Common.{map, take}
use Rattle.rx_util.specs.Groups.{names_of}
use Rattle.rx_grammar.specs.Nodes.{kind_of}
use Rattle.rx_grammar.specs.Postorder.{tree_of}
use Rattle.rx_engine.proofs.GroupLaws.{AreNamesAmong}
use Rattle.rx_engine.proofs.groups.group_names.Given as goal

-- the names of the groups among the nodes so far are copied
abbrev pub invariant-loop-node : goal.invariant-loop-node
invariant-loop-node l = AreNamesAmong (tree_of l.hir) (map kind_of (take l.node-index l.node-items)) (names_of l.names.items)
