use Rattle.std.proofs.Common.{◌≡◌, ◌-◌, ◌≤◌, length}
use Rattle.rx_input.specs.Cursors.{IsSameContent}
use Rattle.rx_literals.specs.ByteSets.{HasNoMemberBetween}
use Rattle.rx_literals.specs.Needles.{bytes_to_end}
use Rattle.rx_literals.proofs.byte_set.ByteSet.find.Given as goal

abbrev pub invariant-loop-hay : goal.invariant-loop-hay
invariant-loop-hay g l = record {
  same : IsSameContent l.fn.input.cursor l.input.cursor;
  asked : l.input.asked ≡ l.fn.input.asked;
  behind : l.fn.input.asked.span.start ≤ l.at;
  none : HasNoMemberBetween l.self (bytes_to_end l.fn.input) l.fn.input.asked.span.start l.at;
}

abbrev pub decreases-loop-hay : goal.decreases-loop-hay
decreases-loop-hay g l = length l.input.cursor.content - l.at
