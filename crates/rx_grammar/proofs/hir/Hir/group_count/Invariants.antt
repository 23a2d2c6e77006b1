use Rattle.std.proofs.Common.{◌≡◌, ◌≤◌, map, take}
use Rattle.rx_grammar.specs.Nodes.{kind_of}
use Rattle.rx_grammar.proofs.NumberLaws.{groups_in}
use Rattle.rx_grammar.proofs.hir.Hir.group_count.Given as goal

-- the groups among the nodes so far are counted
abbrev pub invariant-loop-node : goal.invariant-loop-node
invariant-loop-node l = record {
  counted : l.count ≡ groups_in (map kind_of (take l.node-index l.node-items));
  few : l.count ≤ l.node-index;
}
