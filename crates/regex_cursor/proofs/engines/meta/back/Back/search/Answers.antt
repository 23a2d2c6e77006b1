use Rattle.std.proofs.Common.{sym, subst}
use Rattle.rx_steps.specs.Reversed.{IsReverseOf}
use Rattle.rx_chunk.proofs.EngineLaws.{if_ok}
use Rattle.regex_cursor.proofs.engines.meta.back.Back.search.Goals as goal

pub returns-then-hybrid-clause-answer : goal.returns-then-hybrid-clause-answer
returns-then-hybrid-clause-answer g c =
    if_ok c.search_from.result (λ found is p reverse. is p (subst (IsReverseOf p) (sym c.self.view_is) reverse)) c.search_from.ensures.answer
