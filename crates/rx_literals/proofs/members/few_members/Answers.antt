use Rattle.rx_literals.proofs.MapLaws.{has_more}
use Rattle.rx_literals.proofs.members.few_members.Goals as goal

pub loop-range-preserved : goal.loop-range-preserved
loop-range-preserved c =
    has_more c.args.ranges.now c.loop-range.range-index _ c.loop-range.members.items c.put_members.new.members.items c.loop-range-test.true
    c.in_ok-put_members.ensures.kept (c.in_ok-put_members.ensures.put (cc c.if-not-branch.false)) c.loop-range.invariant
