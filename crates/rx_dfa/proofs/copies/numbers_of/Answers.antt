use Rattle.std.proofs.Common.{◌<◌, ◌==◌, ◌∷◌, ◌++◌, [], Some, length, take, ap, subst, ◌∙◌, arith}
use Rattle.std.specs.HashMap.{Updates}
use Rattle.rx_dfa.specs.Caches.{AreNumbered}
use Rattle.rx_dfa.proofs.ClassLaws.{take_all}
use Rattle.rx_dfa.proofs.CopyLaws.{take_next}
use Rattle.rx_dfa.proofs.StateLaws.{numbered_more, on_not_err}
use Rattle.rx_dfa.proofs.copies.numbers_of.Goals as goal

pub loop-number-preserved : goal.loop-number-preserved
loop-number-preserved c =
    let states = c.args.states.now in
    let n = c.loop-number.number in
    let z = c.index-states-number.result in
    let before = c.loop-number.numbers in
    let after = c.insert.new.self in
    let lt : n < length states = omega (arith, c.loop-number-test.true) in
    let noted = on_not_err c.insert.result c.is_err.result c.is_err.ensures.value c.if-is_err.false c.insert.ensures.updates in
    subst (λ xs. AreNumbered xs after) (ap (λ y. take n states ++ y ∷ []) c.index-states-number.is ∙ take_next states n z lt)
    (numbered_more (take n states) z before after n (subst (λ h. Updates ◌==◌ before after h (Some n)) c.hash.ensures noted) c.loop-number.invariant)

pub returns : goal.returns
returns c =
    let states = c.args.states.now in
    let n = c.loop-number.number in
    subst (λ xs. AreNumbered xs c.loop-number.numbers) (take_all states n (omega (arith, c.loop-number-test.false))) c.loop-number.invariant
