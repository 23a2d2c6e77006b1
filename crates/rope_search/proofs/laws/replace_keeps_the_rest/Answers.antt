use Rattle.rope_search.proofs.ReplaceLaws.{replace_keeps}
use Rattle.rope_search.proofs.laws.replace_keeps_the_rest.Goals as goal

pub returns : goal.returns
returns c = replace_keeps c.groups_follow_each_other.ensures c.replacements_are_changes.ensures
