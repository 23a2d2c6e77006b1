-- The matches of the rows so far are counted, and are at the start.
use Rattle.std.proofs.Common.{◌≡◌, ◌+◌, take}
use Rattle.rope_search_reports.specs.Report.{match_count}
use Rattle.rope_search_c.specs.Reading.{spans_from, with_front}
use Rattle.rope_search_c.proofs.reading.put_rows.Given as goal

abbrev pub invariant-loop-row : goal.invariant-loop-row
invariant-loop-row l =
    (l.line ≡ l.from + l.row-index) × (l.at ≡ match_count (take l.row-index l.rows))
    × (l.out ≡ with_front (spans_from l.from (take l.row-index l.rows)) l.fn.out)
