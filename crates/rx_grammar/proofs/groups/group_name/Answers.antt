use Rattle.rx_grammar.proofs.HeadLaws.{no_open_name}
use Rattle.rx_grammar.proofs.groups.group_name.Goals as goal

pub returns-in-None : goal.returns-in-None
returns-in-None c = no_open_name c.split_front.ensures c.in-None.ensures
