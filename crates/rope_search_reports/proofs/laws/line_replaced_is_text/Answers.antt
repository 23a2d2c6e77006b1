use Rattle.regex_cursor.proofs.TreeLaws.{finds_of_trees}
use Rattle.rope_search_reports.proofs.ListedLemmas.{line-replaced-is}
use Rattle.rope_search_reports.proofs.laws.line_replaced_is_text.Goals as goal

pub returns : goal.returns
returns c = line-replaced-is finds_of_trees
