use Rattle.rx_chunk.proofs.EngineLaws.{if_ok}
use Rattle.regex_cursor.proofs.LiteralLaws.{if_there}
use Rattle.regex_cursor.proofs.engines.meta.literals.required_of.Goals as goal

pub returns-then-get_auto_prefilter-clause-contained : goal.returns-then-get_auto_prefilter-clause-contained
returns-then-get_auto_prefilter-clause-contained c = if_ok c.required.result (λ found contained. if_there found contained) c.required.ensures
