use Rattle.regex_cursor.proofs.TreeLaws.{finds_of_trees}
use Rattle.rope_search_reports.proofs.MatchLemmas.{has-find}
use Rattle.rope_search_reports.proofs.laws.has_find.Goals as goal

pub returns : goal.returns
returns c = has-find finds_of_trees
