use Rattle.regex_cursor.proofs.TreeLaws.{finds_of_trees}
use Rattle.rope_search_reports.proofs.MatchLemmas.{finds-in-text}
use Rattle.rope_search_reports.proofs.laws.finds_are_in_text.Goals as goal

pub returns : goal.returns
returns c = finds-in-text finds_of_trees
