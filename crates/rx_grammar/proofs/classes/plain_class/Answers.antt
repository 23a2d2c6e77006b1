use Rattle.rx_grammar.specs.Classes.{plain}
use Rattle.rx_grammar.proofs.classes.plain_class.Goals as goal

pub returns-in-Some : goal.returns-in-Some
returns-in-Some c = plain c.requires (rw c.in-Some.is at c.in_ok-found.ensures)
