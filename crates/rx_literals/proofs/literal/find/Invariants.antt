use Rattle.std.proofs.Common.{◌≡◌, ◌-◌, ◌<◌, ◌≤◌, ℕ, None, length}
use Rattle.rx_input.specs.Cursors.{IsSameContent}
use Rattle.rx_literals.specs.Needles.{FoundAt, bytes_to_end}
use Rattle.rx_literals.proofs.literal.find.Given as goal

abbrev pub invariant-loop-at : goal.invariant-loop-at
invariant-loop-at g l = record {
  same : IsSameContent l.fn.input.cursor l.input.cursor;
  asked : l.input.asked ≡ l.fn.input.asked;
  behind : l.fn.input.asked.span.start ≤ l.at;
  none : (i : ℕ) → l.fn.input.asked.span.start ≤ i → i < l.at → FoundAt (bytes_to_end l.fn.input) i l.prefilter None;
}

abbrev pub decreases-loop-at : goal.decreases-loop-at
decreases-loop-at g l = length l.input.cursor.content - l.at
