-- The matches of the rows so far.
use Rattle.std.proofs.Common.{◌≡◌, take}
use Rattle.rope_search_reports.specs.Report.{match_count}
use Rattle.rope_search.proofs.listed.count_before.Given as goal

abbrev pub invariant-loop-line : goal.invariant-loop-line
invariant-loop-line l = l.count ≡ match_count (take l.line l.rows)
