use Rattle.std.proofs.Common.{sym, ap}
use Rattle.rx_util.specs.declared.search.Span.{Span}
use Rattle.rx_steps.specs.Searching.{search_of}
use Rattle.regex_cursor.proofs.engines.meta.starts.ask_part.Goals as goal

pub returns-clause-left : goal.returns-clause-left
returns-clause-left g c =
    let re = c.args.strategy.now.vm in
    let s = search_of re.utf8_empty c.args.input.now in
    c.left_in.ensures re.program s (sym (ap (λ (x : Span). x.start) c.get_span-rest.ensures)) (sym (ap (λ (x : Span). x.end) c.get_span-rest.ensures)) c.in_ok-told.ensures.told
