use Rattle.std.proofs.Common.{arith}
use Rattle.rx_onepass.proofs.MarkLaws.{mark_taken, none_taken}
use Rattle.rx_onepass.proofs.noted.take_marked.Goals as goal

pub returns-then-slot-marks-clause-taken : goal.returns-then-slot-marks-clause-taken
returns-then-slot-marks-clause-taken c = λ i slots same.
    let there = c.first_marked-slot.ensures.there c.if-slot-marks.true in
    mark_taken i there.0 c.args.marks.now slots c.first_marked-slot.result there.1 same

pub returns-else-slot-marks-clause-taken : goal.returns-else-slot-marks-clause-taken
returns-else-slot-marks-clause-taken c = λ i slots same. none_taken i c.args.marks.now slots c.first_marked-slot.result (omega (arith, c.if-slot-marks.false)) same
