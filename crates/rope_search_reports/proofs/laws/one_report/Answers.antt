use Rattle.regex_cursor.proofs.TreeLaws.{finds_of_trees, one_tree}
use Rattle.rope_search_reports.proofs.ReportLaws.{list-one, report-one}
use Rattle.rope_search_reports.proofs.laws.one_report.Goals as goal

pub returns : goal.returns
returns c = report-one (list-one one_tree finds_of_trees)
