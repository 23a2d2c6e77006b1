use Rattle.rx_literals.specs.Endings.{MayCome}
use Rattle.rx_literals.proofs.ending.ends_with_slice.Given as goal

abbrev pub invariant-loop : goal.invariant-loop
invariant-loop l = MayCome l.marks.items l.program.start
