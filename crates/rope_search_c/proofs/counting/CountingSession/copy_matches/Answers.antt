use Rattle.std.proofs.Common.{ap, arith}
use Rattle.rope_search_reports.specs.Report.{match_count}
use Rattle.rope_search_c.proofs.SpanLemmas.{count_between}
use Rattle.rope_search_c.proofs.counting.CountingSession.copy_matches.Goals as goal

pub put_rows-requires-clause-few : goal.put_rows-requires-clause-few
put_rows-requires-clause-few c =
    omega (arith, c.rows.ensures.few, count_between c.args.from c.args.to c.rows.result.now, ap match_count c.rows_between.ensures)
