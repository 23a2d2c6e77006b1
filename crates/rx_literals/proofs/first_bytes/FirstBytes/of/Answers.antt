use Rattle.std.proofs.Common.{ℕ, List}
use Rattle.std.specs.Borrow.{Bor}
use Rattle.std.proofs.lemmas.List.Elements.{All-more}
use Rattle.rx_literals.specs.FirstBytes.{BeginsAmong}
use Rattle.rx_literals.proofs.FirstLaws.{begins_first, begins_more}
use Rattle.rx_literals.proofs.SliceLaws.{all_of}
use Rattle.rx_literals.proofs.first_bytes.FirstBytes.of.Goals as goal

pub loop-needle-preserved : goal.loop-needle-preserved
loop-needle-preserved c =
    All-more (λ (needle : Bor (List ℕ)). BeginsAmong c.in_ok-first-4.first needle.now) c.args.needles.now c.loop-needle.needle-index _ c.loop-needle-test.true
    (λ k d below. begins_more c.loop-needle.first c.in_ok-first-4.first c.in_ok-first-4.ensures.keeps _ (c.loop-needle.invariant k d below))
    (begins_first c.in_ok-first-4.first _ c.in_ok-first-3.field-0.now c.in_ok-first-3.ensures.value c.in_ok-first-4.ensures.has)

pub returns : goal.returns
returns c =
    all_of (λ (needle : Bor (List ℕ)). needle.now) c.args.needles.now (λ needle. BeginsAmong c.loop-needle.first needle) c.loop-needle.needle-index c.loop-needle-test.false c.loop-needle.invariant
