-- The matches of the rows so far are counted.
use Rattle.std.proofs.Common.{◌≡◌, take}
use Rattle.rope_search_reports.specs.Report.{match_count}
use Rattle.rope_search_c.proofs.reading.count_matches.Given as goal

abbrev pub invariant-loop-row : goal.invariant-loop-row
invariant-loop-row l = l.count ≡ match_count (take l.row-index l.rows)
