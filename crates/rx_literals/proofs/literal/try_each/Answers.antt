use Rattle.std.proofs.Common.{Some, sym, subst, arith}
use Rattle.rx_literals.specs.Needles.{FoundAt, nowhere, at_least_place}
use Rattle.rx_literals.proofs.InputLaws.{same_bytes}
use Rattle.rx_literals.proofs.literal.try_each.Goals as goal

pub returns-in-Some-clause-found : goal.returns-in-Some-clause-found
returns-in-Some-clause-found g c =
    let same = same_bytes c.args.input.now c.loop-at.input c.loop-at.invariant.same c.loop-at.invariant.asked in
    at_least_place c.loop-at.at c.loop-at.auto.at c.loop-at-test.true
    (subst (λ bytes. FoundAt bytes c.loop-at.at c.args.prefilter.now (Some c.in-Some.span)) (sym same) c.in-Some.ensures.found) c.loop-at.invariant.none

pub returns-clause-found : goal.returns-clause-found
returns-clause-found g c = nowhere (λ i low high. c.loop-at.invariant.none i low (omega (arith, high, c.loop-at-test.false)))
