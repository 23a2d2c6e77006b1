-- The rows so far were put, and their matches are counted.
use Rattle.std.proofs.Common.{◌≡◌, [], take}
use Rattle.rope_search_io.specs.WriteBuffer.{Puts}
use Rattle.rope_search_reports.specs.Report.{match_count}
use Rattle.rope_search.specs.Shows.{shown_rows}
use Rattle.rope_search.proofs.listings.write_report.Given as goal

abbrev pub invariant-loop-row : goal.invariant-loop-row
invariant-loop-row g l =
    (l.line ≡ l.row-index) × (l.count ≡ match_count (take l.row-index l.rows))
    × Puts [] l.write_buffer (g.W.Sink.state l.fn.sink) (g.W.Sink.state l.sink) (shown_rows 0 (take l.row-index l.rows))
