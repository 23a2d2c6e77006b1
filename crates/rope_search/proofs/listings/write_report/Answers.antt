use Rattle.std.proofs.Common.{◌∙◌, arith}
use Rattle.std.proofs.lemmas.Result.{err_from_is_err_and}
use Rattle.rope_search.proofs.ListingLemmas.{Puts-row, count-row, WritesUntil-row, Writes-report}
use Rattle.rope_search.proofs.listings.write_report.Goals as goal

pub returns-in_err-put_row-clause-written : goal.returns-in_err-put_row-clause-written
returns-in_err-put_row-clause-written g c =
    let p = err_from_is_err_and c.from_residual.result c.from_residual.ensures.1 in
    let so = c.loop-row.invariant in
    rw (p.1, p.2) (WritesUntil-row _ _ _ _ _ _ _ _ _ _ c.loop-row-test.true so.0 (c.matches-matches.ensures ∙ c.row-item.is) so.2 c.in_err-put_row.ensures.written)

pub loop-row-preserved : goal.loop-row-preserved
loop-row-preserved g c =
    let so = c.loop-row.invariant in (
      omega (arith, so.0),
      count-row _ _ _ _ _ c.loop-row-test.true (c.matches-matches.ensures ∙ c.row-item.is) so.1,
      Puts-row _ _ _ _ _ _ _ _ _ _ _ c.loop-row-test.true so.0 (c.matches-matches.ensures ∙ c.row-item.is) so.2 c.in_ok-put_row.ensures.written,
    )

pub returns-clause-written : goal.returns-clause-written
returns-clause-written g c =
    let so = c.loop-row.invariant in
    Writes-report c.send_parts.result c.args.rows.now c.loop-row.count c.loop-row.row-index _ _ _ _ _ c.loop-row-test.false so.1 so.2 (cc) c.send_parts.ensures.written
