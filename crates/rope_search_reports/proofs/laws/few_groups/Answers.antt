use Rattle.regex_cursor.proofs.TreeLaws.{finds_of_trees}
use Rattle.rope_search_reports.proofs.GroupLemmas.{groups-few}
use Rattle.rope_search_reports.proofs.laws.few_groups.Goals as goal

pub returns : goal.returns
returns c = groups-few finds_of_trees
