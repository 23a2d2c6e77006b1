use Rattle.std.proofs.Common.{take}
use Rattle.rx_grammar.specs.Postorder.{trees_of}
use Rattle.rx_grammar.specs.Rows.{AreRowProperties}
use Rattle.rx_grammar.proofs.trees.TreeStack.last_row.Given as goal

abbrev pub invariant-loop : goal.invariant-loop
invariant-loop l = AreRowProperties l.row (take l.counter (trees_of l.self))
