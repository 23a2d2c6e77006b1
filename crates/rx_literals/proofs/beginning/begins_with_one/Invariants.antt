use Rattle.rx_literals.proofs.beginning.begins_with_one.Given as goal

abbrev pub invariant-loop-other : goal.invariant-loop-other
invariant-loop-other l = Unit {0}
