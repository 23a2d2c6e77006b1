use Rattle.std.proofs.Common.{map, take}
use Rattle.rx_grammar.proofs.NameLaws.{NamesSoFar}
use Rattle.rx_grammar.proofs.patterns.has_distinct_names.Given as goal

abbrev pub invariant-loop-node : goal.invariant-loop-node
invariant-loop-node l = NamesSoFar (map (λ name. name.now) l.names.items) (take l.node-index l.nodes)
