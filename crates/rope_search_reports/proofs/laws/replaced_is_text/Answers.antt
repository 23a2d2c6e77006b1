use Rattle.regex_cursor.proofs.TreeLaws.{finds_of_trees}
use Rattle.rope_search_reports.proofs.GroupLemmas.{replaced-is}
use Rattle.rope_search_reports.proofs.laws.replaced_is_text.Goals as goal

pub returns : goal.returns
returns c = replaced-is finds_of_trees
