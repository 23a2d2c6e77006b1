use Rattle.std.proofs.Common.{arith}
use Rattle.rx_literals.specs.Needles.{nowhere, at_least_place}
use Rattle.rx_literals.proofs.prefilter.Parts.try_each.Goals as goal

pub returns-in-Some : goal.returns-in-Some
returns-in-Some c = at_least_place c.loop-at.at (omega arith) c.loop-at-test.true c.in-Some.ensures (λ j low below. c.loop-at.invariant j below)

pub returns : goal.returns
returns c = nowhere (λ i low high. c.loop-at.invariant i (omega (arith, high, c.loop-at-test.false)))
