use Rattle.rx_literals.proofs.beginning.begins_with_needle.Given as goal

abbrev pub invariant-loop-needle : goal.invariant-loop-needle
invariant-loop-needle l = Unit {0}
