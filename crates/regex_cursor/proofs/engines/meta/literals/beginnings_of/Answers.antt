use Rattle.rx_chunk.proofs.EngineLaws.{if_ok}
use Rattle.regex_cursor.proofs.LiteralLaws.{if_there}
use Rattle.regex_cursor.proofs.engines.meta.literals.beginnings_of.Goals as goal

pub returns-in-None-clause-begins : goal.returns-in-None-clause-begins
returns-in-None-clause-begins c = if_ok c.from_program.result (λ found begins. if_there found begins) c.from_program.ensures
