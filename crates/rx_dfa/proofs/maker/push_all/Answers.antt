use Rattle.std.proofs.Common.{arith, ◌∙◌}
use Rattle.rx_dfa.proofs.BareLaws.{push_one}
use Rattle.rx_dfa.proofs.maker.push_all.Goals as goal

pub loop-index-preserved : goal.loop-index-preserved
loop-index-preserved c = record {
  threads = c.in_ok-push.ensures.threads ∙ push_one c.loop-index.threads.threads c.args.others.now.threads c.args.threads.now.threads c.loop-index.index c.node.result c.requires.bare
      (omega (arith, c.loop-index-test.true, c.len-index-end.ensures)) c.node.ensures c.loop-index.invariant.threads;
  slot_len = c.in_ok-push.ensures.slot_len ∙ c.loop-index.invariant.slot_len;
}
