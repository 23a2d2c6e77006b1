use Rattle.std.proofs.Common.{Contains, below_more}
use Rattle.rx_lists.proofs.SetLaws.{with_one, last_one}
use Rattle.rx_lists.proofs.node_set.push_within.Goals as goal

pub loop-within-preserved : goal.loop-within-preserved
loop-within-preserved c =
    let old = c.loop-within.nodes.items in
    let new = c.push.new.self.items in
    record {
      these = below_more (λ s. Contains new (c.args.id, s)) c.loop-within.within (λ s below. with_one old new c.new.result (c.args.id, s) c.in_ok-push.ensures.items (c.loop-within.invariant.these s below))
          (last_one old new c.new.result (c.args.id, c.loop-within.within) c.in_ok-push.ensures.items c.new.ensures);
      others = λ q there. with_one old new c.new.result q c.in_ok-push.ensures.items (c.loop-within.invariant.others q there);
    }
