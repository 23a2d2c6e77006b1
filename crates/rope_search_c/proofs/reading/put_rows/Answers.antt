use Rattle.std.proofs.Common.{◌+◌, ◌∙◌, arith, refl}
use Rattle.rope_search_c.specs.Reading.{spans_from}
use Rattle.rope_search_c.proofs.SpanLemmas.{count-more, count-within, put-more, with_no_front}
use Rattle.rope_search_c.proofs.reading.put_rows.Goals as goal

pub loop-row-init : goal.loop-row-init
unfolding spans_from
loop-row-init c = (omega arith, refl, with_no_front c.args.out.now)

pub overflow_add-at : goal.overflow_add-at
overflow_add-at c =
    let so = c.loop-row.invariant in let i = c.loop-row.row-index in let row-is = c.matches-matches.ensures ∙ c.row-item.is in
    record { fits = omega (arith, c.requires.few, count-within c.args.rows.now (i + 1), count-more _ _ _ _ _ c.loop-row-test.true row-is so.1) }

pub loop-row-preserved : goal.loop-row-preserved
loop-row-preserved c =
    let so = c.loop-row.invariant in let row-is = c.matches-matches.ensures ∙ c.row-item.is in (
      omega (arith, so.0),
      count-more _ _ _ _ _ c.loop-row-test.true row-is so.1,
      put-more _ _ _ _ _ _ _ _ _ _ c.loop-row-test.true row-is so.0 so.1 so.2 c.put_row.ensures,
    )
