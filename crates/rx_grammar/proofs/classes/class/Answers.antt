use Rattle.rx_grammar.specs.Classes.{negation}
use Rattle.rx_grammar.proofs.classes.class.Goals as goal

pub returns-in-Some-found : goal.returns-in-Some-found
returns-in-Some-found c = negation c.in-Some.ensures (rw c.in-Some-found.is at c.in_ok-found.ensures)
