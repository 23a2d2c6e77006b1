use Rattle.std.proofs.Common.{◌<◌, ℕ, None}
use Rattle.rx_literals.specs.Needles.{FoundAt}
use Rattle.rx_literals.proofs.prefilter.Parts.try_each.Given as goal

abbrev pub invariant-loop-at : goal.invariant-loop-at
invariant-loop-at l = (i : ℕ) → i < l.at → FoundAt l.hay i l.self None
