use Rattle.std.proofs.Common.{ℕ, List, refl}
use Rattle.std.specs.Borrow.{Bor}
use Rattle.std.proofs.lemmas.List.Elements.{All-more}
use Rattle.rx_literals.specs.NeedleTables.{MayOccurAt}
use Rattle.rx_literals.proofs.SliceLaws.{all_of}
use Rattle.rx_literals.proofs.needle_table.NeedleTable.of.Goals as goal

pub loop-needle-preserved : goal.loop-needle-preserved
loop-needle-preserved c =
    All-more (λ (needle : Bor (List ℕ)). MayOccurAt c.put.new.self needle.now 0) c.args.needles.now c.loop-needle.needle-index _ c.loop-needle-test.true
    (λ k d below. c.put.ensures.keeps _ (c.loop-needle.invariant k d below))
    (c.if-not-put.ensures.has refl)

pub returns : goal.returns
returns c =
    all_of (λ (needle : Bor (List ℕ)). needle.now) c.args.needles.now (λ needle. MayOccurAt c.loop-needle.table needle 0) c.loop-needle.needle-index c.loop-needle-test.false c.loop-needle.invariant
