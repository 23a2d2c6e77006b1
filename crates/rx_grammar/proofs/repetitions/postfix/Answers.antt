use Rattle.rx_grammar.specs.Repetitions.{alone, marked}
use Rattle.rx_grammar.proofs.RepetitionLaws.{no_postfix}
use Rattle.rx_grammar.proofs.repetitions.postfix.Goals as goal

pub returns-in-Some-eat : goal.returns-in-Some-eat
returns-in-Some-eat c = marked c.in-Some.ensures c.in-Some-eat.ensures

pub returns-in-None : goal.returns-in-None
returns-in-None c = alone c.in-Some.ensures c.in-None.ensures

pub returns-in_default : goal.returns-in_default
returns-in_default c = λ r u postfix. no_postfix c.in_default.ensures postfix
