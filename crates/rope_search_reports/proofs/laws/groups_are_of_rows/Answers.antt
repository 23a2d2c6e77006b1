use Rattle.regex_cursor.proofs.TreeLaws.{finds_of_trees, one_tree}
use Rattle.rope_search_reports.proofs.AmongLemmas.{groups-of-rows}
use Rattle.rope_search_reports.proofs.laws.groups_are_of_rows.Goals as goal

pub returns : goal.returns
returns c = groups-of-rows one_tree finds_of_trees
