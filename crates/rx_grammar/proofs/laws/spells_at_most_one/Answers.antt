use Rattle.rx_grammar.proofs.GrammarLaws.{Spells-unique}
use Rattle.rx_grammar.proofs.laws.spells_at_most_one.Goals as goal

pub returns : goal.returns
returns c = λ text settings tree other spells spells'. Spells-unique text settings tree other spells spells'
