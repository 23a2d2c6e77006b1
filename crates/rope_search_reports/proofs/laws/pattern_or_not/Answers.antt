use Rattle.regex_cursor.proofs.TreeLaws.{tree_or_none}
use Rattle.rope_search_reports.proofs.MatchLemmas.{pattern-or-not}
use Rattle.rope_search_reports.proofs.laws.pattern_or_not.Goals as goal

pub returns : goal.returns
returns c = pattern-or-not tree_or_none
