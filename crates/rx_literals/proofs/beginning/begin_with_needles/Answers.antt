use Rattle.std.proofs.Common.{String, Global, Vec, ℕ, string_bytes, map, length, ◌≤◌, arith}
use Rattle.rx_literals.proofs.KeptLaws.{stand_for_none, stand_for_more, stand_for_all}
use Rattle.rx_literals.proofs.beginning.begin_with_needles.Goals as goal

pub loop-literal-init : goal.loop-literal-init
loop-literal-init c = stand_for_none (λ (literal : String Global). string_bytes literal) (map (λ (needle : Vec ℕ Global). needle.items) c.args.needles.now) c.args.literals.now

pub loop-literal-preserved : goal.loop-literal-preserved
loop-literal-preserved c =
    stand_for_more (λ (literal : String Global). string_bytes literal) (map (λ (needle : Vec ℕ Global). needle.items) c.args.needles.now) c.args.literals.now c.loop-literal.literal-index c.literal-item.result
    c.loop-literal-test.true c.literal-item.is (c.begins_with_needle.ensures c.if-not-begins_with_needle.false) c.loop-literal.invariant

pub returns : goal.returns
returns c = λ is.
    let past : length c.args.literals.now ≤ c.loop-literal.literal-index = omega (arith, c.loop-literal-test.false) in
    stand_for_all (λ (literal : String Global). string_bytes literal) (map (λ (needle : Vec ℕ Global). needle.items) c.args.needles.now) c.args.literals.now c.loop-literal.literal-index past c.loop-literal.invariant
