use Rattle.std.proofs.Common.{◌≡◌, ◌<◌, ◌≤◌, ℕ, None}
use Rattle.rx_input.specs.Cursors.{IsSameContent}
use Rattle.rx_literals.specs.Needles.{FoundAt, bytes_to_end}
use Rattle.rx_literals.proofs.literal.try_each.Given as goal

abbrev pub invariant-loop-at : goal.invariant-loop-at
invariant-loop-at g l = record {
  same : IsSameContent l.fn.input.cursor l.input.cursor;
  asked : l.input.asked ≡ l.fn.input.asked;
  none : (i : ℕ) → l.from ≤ i → i < l.at → FoundAt (bytes_to_end l.fn.input) i l.prefilter None;
}
