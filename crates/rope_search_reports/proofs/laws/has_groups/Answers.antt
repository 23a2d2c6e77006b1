use Rattle.regex_cursor.proofs.TreeLaws.{finds_of_trees}
use Rattle.rope_search_reports.proofs.GroupLemmas.{has-groups}
use Rattle.rope_search_reports.proofs.laws.has_groups.Goals as goal

pub returns : goal.returns
returns c = has-groups finds_of_trees
