use Rattle.std.proofs.Common.{ℕ, Vec, Global, length, map, sym, ap, ◌∙◌, arith}
use Rattle.rx_literals.proofs.NeedleLaws.{prefix_is, found_this, carried_on, found_none}
use Rattle.rx_literals.proofs.prefilter.Parts.find_at.Goals as goal

pub returns-then-is_prefix : goal.returns-then-is_prefix
returns-then-is_prefix c =
    let inside = (prefix_is c.args.hay.now c.deref.result.now c.args.at (omega (arith, c.requires))).0 (c.is_prefix.ensures.0 c.if-is_prefix.true) in
    found_this (λ (needle : Vec ℕ Global). needle.items) c.args.hay.now c.args.at c.deref-needle-items.result.now c.loop-needle.needle-index c.needle-item.result c.deref.result.now
    c.loop-needle-test.true c.needle-item.is c.deref.ensures.value c.args.self.now c.len.result
    (sym c.self.view_is ∙ ap (λ xs. map (λ (needle : Vec ℕ Global). needle.items) xs) (sym c.deref-needle-items.ensures.value))
    (omega (arith, c.len.ensures, c.needle-item.result.ok.0, ap length c.deref.ensures.value)) inside c.loop-needle.invariant

pub loop-needle-preserved : goal.loop-needle-preserved
loop-needle-preserved c =
    carried_on (λ (needle : Vec ℕ Global). needle.items) c.args.hay.now c.args.at c.deref-needle-items.result.now c.loop-needle.needle-index c.needle-item.result c.deref.result.now
    c.loop-needle-test.true c.needle-item.is c.deref.ensures.value
    (λ occurs. (let yes = c.is_prefix.ensures.1 ((prefix_is c.args.hay.now c.deref.result.now c.args.at (omega (arith, c.requires))).1 occurs) in absurd (cc (yes, c.if-is_prefix.false))))
    c.loop-needle.invariant

pub returns : goal.returns
returns c =
    found_none (λ (needle : Vec ℕ Global). needle.items) c.args.hay.now c.args.at c.deref-needle-items.result.now c.loop-needle.needle-index c.args.self.now
    (sym c.self.view_is ∙ ap (λ xs. map (λ (needle : Vec ℕ Global). needle.items) xs) (sym c.deref-needle-items.ensures.value))
    c.loop-needle-test.false c.loop-needle.invariant
