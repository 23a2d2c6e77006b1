use Rattle.regex_cursor.proofs.TreeLaws.{finds_of_trees, one_tree}
use Rattle.rope_search_reports.proofs.GroupLemmas.{groups-one}
use Rattle.rope_search_reports.proofs.laws.one_list_of_groups.Goals as goal

pub returns : goal.returns
returns c = groups-one one_tree finds_of_trees
