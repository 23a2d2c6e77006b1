use Rattle.std.proofs.Common.{◌<◌, length, arith}
use Rattle.rx_steps.proofs.EndLaws.{pushed_more}
use Rattle.rx_steps.proofs.started.push_started.Goals as goal

pub loop-index-preserved : goal.loop-index-preserved
loop-index-preserved c =
    let xs = c.args.nodes.now.threads in
    let n = c.loop-index.index in
    let within : n < length xs = omega (arith, c.loop-index-test.true, c.len-index-end.ensures) in
    pushed_more c.args.start c.args.list.now.items c.loop-index.list.items c.push.new.self.items c.new.result xs n c.node.result c.in_ok-push.ensures.items c.new.ensures c.loop-index.invariant within c.node.ensures
