use Rattle.std.proofs.Common.{◌-◌, ◌<◌, ◌≤◌, ℕ, None, length}
use Rattle.rx_literals.specs.Needles.{FoundAt}
use Rattle.rx_literals.proofs.prefilter.Parts.try_table.Given as goal

abbrev pub invariant-loop-at : goal.invariant-loop-at
invariant-loop-at l = record {
  inside : l.next ≤ length l.hay;
  none : (i : ℕ) → i < l.next → FoundAt l.hay i l.self None;
}

abbrev pub decreases-loop-at : goal.decreases-loop-at
decreases-loop-at l = length l.hay - l.next
