use Rattle.std.proofs.lemmas.List.{drop_more}
use Rattle.rx_sets.specs.Unions.{InSpan}
use Rattle.rx_sets.proofs.UnionLemmas.{Completes-step, Completes-end}
use Rattle.rx_sets.proofs.foldings.push_items.Goals as goal

pub loop-item-preserved : goal.loop-item-preserved
loop-item-preserved c =
    Completes-step (InSpan c.args.fold) _ _ _ _ _ _ _ (drop_more c.args.items.now c.loop-item.item-index _ c.loop-item-test.true) c.in_ok-push_item.ensures c.loop-item.invariant

pub returns : goal.returns
returns c = Completes-end (InSpan c.args.fold) _ _ c.loop-item.item-index _ c.loop-item-test.false c.loop-item.invariant
