use Rattle.rx_literals.specs.Endings.{MayCome}
use Rattle.rx_literals.proofs.byte_set.ByteSet.of.Given as goal

abbrev pub invariant-loop : goal.invariant-loop
invariant-loop l = MayCome l.marks.items l.program.start
