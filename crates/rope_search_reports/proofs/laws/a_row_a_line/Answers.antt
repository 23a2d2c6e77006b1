use Rattle.rope_search_reports.proofs.ReportLaws.{report-length}
use Rattle.rope_search_reports.proofs.laws.a_row_a_line.Goals as goal

pub returns : goal.returns
returns c = report-length
