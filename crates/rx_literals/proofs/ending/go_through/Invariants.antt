use Rattle.std.proofs.Common.{◌≡◌, ◌<◌, ℕ, slice_get, Some}
use Rattle.rx_program.specs.Programs.{node_of}
use Rattle.rx_program.specs.declared.states.State.{State}
use Rattle.rx_literals.specs.declared.ending.Told.TheVariants.{Closed}
use Rattle.rx_literals.specs.Endings.{MarksGrow, LeadsToMarks, MayCome}
use Rattle.rx_literals.proofs.ending.go_through.Given as goal

abbrev pub invariant-loop-index : goal.invariant-loop-index
invariant-loop-index l = record {
  closed : l.told ≡ Closed → (q : ℕ) (here : State) → q < l.index → slice_get l.states q ≡ Some here → MayCome l.marks q → LeadsToMarks l.marks (node_of here);
  grows : MarksGrow l.fn.marks l.marks;
}
