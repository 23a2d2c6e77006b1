use Rattle.std.proofs.Common.{◌∙◌, None, arith}
use Rattle.rope_search_c.specs.Groups.{group_in}
use Rattle.rope_search_c.proofs.CopyLemmas.{put-told-in, put-told-out}
use Rattle.rope_search_c.proofs.groups.put_groups.Goals.{then-k-out, else-k-out}
use Rattle.rope_search_c.proofs.groups.put_groups.Goals as goal

pub loop-k-preserved : goal.loop-k-preserved
loop-k-preserved c = elim c.if-k-out.branch [
  | then-k-out w ↦
      w.out-is ∙ put-told-in (group_in c.args.line) c.args.groups.now c.loop-k.k _ c.args.out.now c.loop-k.out w.group_in.result (omega (arith, c.told-groups, c.loop-k-test.true))
      w.group_in.ensures c.loop-k.invariant w.if-k-out.true
  | else-k-out w ↦
      w.out-is ∙ put-told-out (group_in c.args.line) c.args.groups.now c.loop-k.k None c.args.out.now c.loop-k.out (omega (arith, c.told-groups, c.loop-k-test.true))
      c.loop-k.invariant w.if-k-out.false
]
