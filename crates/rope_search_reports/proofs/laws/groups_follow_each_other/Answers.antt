use Rattle.regex_cursor.proofs.TreeLaws.{finds_of_trees}
use Rattle.rope_search_reports.proofs.GroupLemmas.{groups-follow}
use Rattle.rope_search_reports.proofs.laws.groups_follow_each_other.Goals as goal

pub returns : goal.returns
returns c = groups-follow finds_of_trees
