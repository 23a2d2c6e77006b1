use Rattle.std.proofs.Common.{sym, ◌∙◌}
use Rattle.rx_utf8.proofs.RowLaws.{stops}
use Rattle.rx_utf8.proofs.byte_ranges.look_up.Goals as goal

pub returns-then-byte-range : goal.returns-then-byte-range
returns-then-byte-range c =
    sym (sym c.loop-range.invariant.leads
    ∙ stops c.args.row.now c.loop-range.range-index c.loop-range.invariant.rises.0 c.args.byte _ c.loop-range-test.true c.loop-range.invariant.rises.1 c.if-byte-range.true)
