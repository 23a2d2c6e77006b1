-- The matches of the rows so far are counted, and are at the start.
use Rattle.std.proofs.Common.{◌≡◌, ◌+◌, take}
use Rattle.ropey.specs.Chunks.{text_of}
use Rattle.rope_search_reports.specs.Report.{match_count}
use Rattle.rope_search.specs.LineColumns.{rows_as}
use Rattle.rope_search_c.specs.Reading.{spans_from, with_front}
use Rattle.rope_search_c.proofs.lines.put_rows_as.Given as goal

abbrev pub invariant-loop-row : goal.invariant-loop-row
invariant-loop-row l =
    (l.line ≡ l.from + l.row-index) × (l.at ≡ match_count (take l.row-index l.rows))
    × (l.out ≡ with_front (spans_from l.from (take l.row-index (rows_as l.encoding (text_of l.text) l.from l.rows))) l.fn.out)
