use Rattle.regex_cursor.proofs.TreeLaws.{finds_of_trees}
use Rattle.rope_search_reports.proofs.ReportLaws.{has-matches, has-report}
use Rattle.rope_search_reports.proofs.laws.has_report.Goals as goal

pub returns : goal.returns
returns c = has-report (has-matches finds_of_trees)
