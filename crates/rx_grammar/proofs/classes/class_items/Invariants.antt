use Rattle.std.proofs.Common.{length}
use Rattle.rx_grammar.proofs.ClassLaws.{ReadsUpTo}
use Rattle.rx_grammar.proofs.classes.class_items.Given as goal

abbrev pub invariant-loop-item : goal.invariant-loop-item
invariant-loop-item l = ReadsUpTo l.fn.items.items l.items.items l.text l.rest

abbrev pub decreases-loop-item : goal.decreases-loop-item
decreases-loop-item l = length l.rest
