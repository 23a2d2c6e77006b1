use Rattle.std.proofs.Common.{ap, arith}
use Rattle.rope_search_reports.specs.Report.{match_count}
use Rattle.rope_search_c.proofs.SpanLemmas.{count_between}
use Rattle.rope_search_c.proofs.counting.CountingSession.count_matches.Goals as goal

pub count_matches-requires : goal.count_matches-requires
count_matches-requires c =
    omega (arith, c.rows.ensures.few, count_between c.args.from c.args.to c.rows.result.now, ap match_count c.rows_between.ensures)
