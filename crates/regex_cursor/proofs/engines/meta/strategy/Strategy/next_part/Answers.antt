use Rattle.std.proofs.Common.{◌≡◌, sym, ap, subst, ◌∙◌}
use Rattle.rx_util.specs.declared.search.Span.{Span}
use Rattle.rx_input.specs.Inputs.{Asked}
use Rattle.rx_steps.specs.Searching.{search_of}
use Rattle.regex_cursor.specs.Strategies.{IsPartLeft}
use Rattle.regex_cursor.proofs.engines.meta.strategy.Strategy.next_part.Goals as goal

pub returns-in-Some-clause-next : goal.returns-in-Some-clause-next
returns-in-Some-clause-next g c =
    let i = c.args.input.now in
    let re = c.args.self.now.vm in
    let s = search_of re.utf8_empty i in
    let span : c.get_span.result ≡ i.asked.span = c.get_span.ensures ∙ ap (λ (a : Asked). a.span) c.in_ok-find_part.ensures.asked in
    let is = subst (λ o. IsPartLeft re.program s o) c.in-Some.is c.in_ok-find_part.ensures.part in
    c.behind.ensures re.program s (sym (ap (λ (x : Span). x.start) span)) (sym (ap (λ (x : Span). x.end) span)) is
