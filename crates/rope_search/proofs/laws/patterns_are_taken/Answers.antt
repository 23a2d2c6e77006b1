use Rattle.rope_search.proofs.TextLaws.{patterns_taken}
use Rattle.rope_search.proofs.laws.patterns_are_taken.Goals as goal

pub returns : goal.returns
returns c = patterns_taken c.one_of_three.ensures
