use Rattle.std.proofs.Common.{◌≡◌, ◌<◌, ℕ, false, slice_get, Some}
use Rattle.rx_literals.specs.Endings.{MarksGrow, MayCome}
use Rattle.rx_literals.proofs.ending.mark_all.Given as goal

abbrev pub invariant-loop-state : goal.invariant-loop-state
invariant-loop-state l = record {
  kept : l.more ≡ false → l.marks ≡ l.fn.marks;
  marked : (k r : ℕ) → k < l.state-index → slice_get l.states k ≡ Some r → MayCome l.marks r;
  grows : MarksGrow l.fn.marks l.marks;
}
