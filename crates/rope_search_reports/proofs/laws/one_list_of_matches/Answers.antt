use Rattle.regex_cursor.proofs.TreeLaws.{finds_of_trees, one_tree}
use Rattle.rope_search_reports.proofs.ReportLaws.{list-one}
use Rattle.rope_search_reports.proofs.laws.one_list_of_matches.Goals as goal

pub returns : goal.returns
returns c = list-one one_tree finds_of_trees
