use Rattle.regex_cursor.proofs.TreeLaws.{finds_of_trees}
use Rattle.rope_search_reports.proofs.ReportLaws.{has-matches}
use Rattle.rope_search_reports.proofs.laws.has_matches.Goals as goal

pub returns : goal.returns
returns c = has-matches finds_of_trees
