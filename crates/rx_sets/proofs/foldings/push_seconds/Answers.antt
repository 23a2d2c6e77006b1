use Rattle.std.proofs.lemmas.List.{drop_more}
use Rattle.rx_sets.specs.Unions.{LeadsOut}
use Rattle.rx_sets.proofs.UnionLemmas.{Completes-step, Completes-end}
use Rattle.rx_sets.proofs.foldings.push_seconds.Goals as goal

pub loop-pair-preserved : goal.loop-pair-preserved
loop-pair-preserved c =
    Completes-step (LeadsOut c.args.low c.args.high) _ _ _ _ _ _ _ (drop_more c.args.pairs.now c.loop-pair.pair-index (0, 0) c.loop-pair-test.true) c.in_ok-push_second.ensures c.loop-pair.invariant

pub returns : goal.returns
returns c = Completes-end (LeadsOut c.args.low c.args.high) _ _ c.loop-pair.pair-index _ c.loop-pair-test.false c.loop-pair.invariant
