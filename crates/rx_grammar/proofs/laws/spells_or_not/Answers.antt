use Rattle.rx_grammar.proofs.PatternDecisions as decisions
use Rattle.rx_grammar.proofs.laws.spells_or_not.Goals as goal

pub returns : goal.returns
returns c = λ text settings. decisions.spells_or_not text settings
