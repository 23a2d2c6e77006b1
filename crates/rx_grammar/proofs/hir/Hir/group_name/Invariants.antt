use Rattle.std.proofs.Common.{◌≢◌, All, map, take, Some}
use Rattle.rx_grammar.specs.Trees.{Name}
use Rattle.rx_grammar.specs.Subtrees.{a_group}
use Rattle.rx_grammar.specs.Nodes.{kind_of}
use Rattle.rx_grammar.proofs.hir.Hir.group_name.Given as goal

abbrev pub invariant-loop-node : goal.invariant-loop-node
invariant-loop-node l = (name : Name) → All (λ other. other ≢ a_group l.number (Some name)) (map kind_of (take l.node-index l.node-items))
