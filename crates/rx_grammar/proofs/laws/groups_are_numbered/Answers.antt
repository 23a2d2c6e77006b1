use Rattle.rx_grammar.proofs.NumberLaws.{numbered_in_order}
use Rattle.rx_grammar.proofs.laws.groups_are_numbered.Goals as goal

pub returns : goal.returns
returns c = λ text settings. numbered_in_order text settings
