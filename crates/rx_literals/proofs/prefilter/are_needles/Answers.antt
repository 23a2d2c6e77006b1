use Rattle.std.proofs.Common.{◌≡◌, ℕ, List, length, true, refl}
use Rattle.std.specs.Borrow.{Bor}
use Rattle.std.proofs.lemmas.List.Elements.{All-more}
use Rattle.rx_literals.specs.Needles.{IsNeedle}
use Rattle.rx_literals.proofs.SliceLaws.{are_needles, needle_of, not_empty}
use Rattle.rx_literals.proofs.prefilter.are_needles.Goals as goal

pub returns-then-not-is_needle : goal.returns-then-not-is_needle
returns-then-not-is_needle c = (
  λ e. absurd (cc e),
  λ are.
      let yes : c.is_needle.result ≡ true = c.is_needle.ensures.1 (needle_of (λ (needle : Bor (List ℕ)). needle.now) c.args.needles.now c.loop-needle.needle-index _ c.loop-needle-test.true are) in
      absurd (cc (yes, c.if-not-is_needle.true)),
)

pub loop-needle-preserved : goal.loop-needle-preserved
loop-needle-preserved c = All-more (λ (needle : Bor (List ℕ)). IsNeedle needle.now) c.args.needles.now c.loop-needle.needle-index _ c.loop-needle-test.true c.loop-needle.invariant (c.is_needle.ensures.0 (cc c.if-not-is_needle.false))

pub returns : goal.returns
returns c = (
  λ e. are_needles (λ (needle : Bor (List ℕ)). needle.now) c.args.needles.now c.loop-needle.needle-index c.loop-needle-test.false
      (not_empty (length c.args.needles.now) c.is_empty.result c.is_empty.ensures c.if-is_empty.false) c.if-needles-gt-NEEDLES.false c.loop-needle.invariant,
  λ are. refl,
)
