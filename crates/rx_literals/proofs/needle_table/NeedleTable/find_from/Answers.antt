use Rattle.std.proofs.Common.{arith}
use Rattle.rx_literals.proofs.needle_table.NeedleTable.find_from.Goals as goal

pub returns-then-may_occur : goal.returns-then-may_occur
returns-then-may_occur c = (
  record {
    low = c.loop-at.invariant.low;
    high = omega (arith, c.loop-at-test.true, c.saturating_sub-end.ensures);
    before = c.loop-at.invariant.none;
  },
  c.may_occur.ensures.0 c.if-may_occur.true,
)
