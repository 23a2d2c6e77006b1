use Rattle.std.proofs.Common.{◌∙◌, arith}
use Rattle.rope_search_c.proofs.SpanLemmas.{put-match-in, put-match-out}
use Rattle.rope_search_c.proofs.reading.put_row.Goals.{then-next-out, else-next-out}
use Rattle.rope_search_c.proofs.reading.put_row.Goals as goal

pub loop-columns-preserved : goal.loop-columns-preserved
loop-columns-preserved c =
    let so = c.loop-columns.invariant in let inside = c.loop-columns-test.true in (
      omega (arith, so.0),
      λ done first was here. elim c.if-next-out.branch [
        | then-next-out w ↦ w.out-is ∙ put-match-in _ _ _ _ _ _ done first _ inside so.0 here (so.1 done first was here) w.if-next-out.true
        | else-next-out w ↦ w.out-is ∙ put-match-out _ _ _ _ _ (0, 0) done first _ inside so.0 here (so.1 done first was here) w.if-next-out.false
      ],
    )
