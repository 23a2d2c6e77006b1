use Rattle.std.proofs.Common.{sym}
use Rattle.rx_dfa.proofs.search.byte_behind.Goals as goal

pub returns-in-Some-clause-asked : goal.returns-in-Some-clause-asked
returns-in-Some-clause-asked g c = λ asks utf8_empty inside. sym (c.in-Some.ensures utf8_empty)
