use Rattle.std.proofs.Common.{sym, subst}
use Rattle.rx_steps.specs.Reversed.{IsReverseOf}
use Rattle.rx_chunk.proofs.EngineLaws.{if_ok}
use Rattle.regex_cursor.proofs.engines.meta.back.Back.walk_back.Goals as goal

pub returns-clause-answer : goal.returns-clause-answer
returns-clause-answer g c =
    if_ok c.search_from-back.result (λ found is p reverse. is p (subst (IsReverseOf p) (sym c.self.view_is) reverse)) c.search_from-back.ensures.answer
