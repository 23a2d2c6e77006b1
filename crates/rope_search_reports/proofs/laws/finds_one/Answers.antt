use Rattle.regex_cursor.proofs.TreeLaws.{finds_of_trees, one_tree}
use Rattle.rope_search_reports.proofs.MatchLemmas.{find-one}
use Rattle.rope_search_reports.proofs.laws.finds_one.Goals as goal

pub returns : goal.returns
returns c = find-one one_tree finds_of_trees
