use Rattle.regex_cursor.proofs.TreeLaws.{finds_of_trees}
use Rattle.rope_search_reports.proofs.FewLemmas.{report-few}
use Rattle.rope_search_reports.proofs.laws.few_matches.Goals as goal

pub returns : goal.returns
returns c = report-few finds_of_trees
