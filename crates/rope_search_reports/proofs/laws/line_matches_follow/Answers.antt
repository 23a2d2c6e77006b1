use Rattle.regex_cursor.proofs.TreeLaws.{finds_of_trees}
use Rattle.rope_search_reports.proofs.ListedLemmas.{line-matches-follow}
use Rattle.rope_search_reports.proofs.laws.line_matches_follow.Goals as goal

pub returns : goal.returns
returns c = line-matches-follow finds_of_trees
