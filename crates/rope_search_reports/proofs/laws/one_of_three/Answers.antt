use Rattle.regex_cursor.proofs.TreeLaws.{one_tree}
use Rattle.rope_search_reports.proofs.MatchLemmas.{one-of-three}
use Rattle.rope_search_reports.proofs.laws.one_of_three.Goals as goal

pub returns : goal.returns
returns c = one-of-three one_tree
