use Rattle.std.proofs.Common.{◌≡◌}
use Rattle.rx_literals.specs.declared.ending.Told.TheVariants.{Closed}
use Rattle.rx_literals.specs.Endings.{MarksGrow}
use Rattle.rx_literals.proofs.ByteSetLaws.{BeginSoFar}
use Rattle.rx_literals.proofs.byte_set.go_through.Given as goal

abbrev pub invariant-loop-index : goal.invariant-loop-index
invariant-loop-index l = record {
  closed : l.told ≡ Closed → BeginSoFar l.states l.members l.marks l.index;
  grows : MarksGrow l.fn.marks l.marks;
}
