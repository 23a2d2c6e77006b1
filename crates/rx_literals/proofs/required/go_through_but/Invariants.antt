use Rattle.std.proofs.Common.{◌≡◌}
use Rattle.rx_literals.specs.declared.ending.Told.TheVariants.{Closed}
use Rattle.rx_literals.specs.Endings.{MarksGrow}
use Rattle.rx_literals.proofs.RequirementLaws.{StopSoFar}
use Rattle.rx_literals.proofs.required.go_through_but.Given as goal

abbrev pub invariant-loop-index : goal.invariant-loop-index
invariant-loop-index l = record {
  closed : l.told ≡ Closed → StopSoFar l.states l.stop l.marks l.index;
  grows : MarksGrow l.fn.marks l.marks;
}
