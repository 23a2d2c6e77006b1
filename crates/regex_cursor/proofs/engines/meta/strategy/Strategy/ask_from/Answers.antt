use Rattle.std.proofs.Common.{subst}
use Rattle.rx_chunk.proofs.EngineLaws.{if_ok}
use Rattle.regex_cursor.specs.Strategies.{IsLeft}
use Rattle.regex_cursor.proofs.StartLaws.{start_search}
use Rattle.regex_cursor.proofs.engines.meta.strategy.Strategy.ask_from.Goals as goal

pub returns-clause-left : goal.returns-clause-left
returns-clause-left g c =
    let i = c.args.input.now in
    let re = c.args.self.now.vm in
    let place = c.args.place in
    let search = start_search re.utf8_empty i c.set_start.new.self place c.set_start.ensures in
    if_ok c.ask_rest-left.result (λ left is. subst (λ s. IsLeft re.program s left) search is) c.ask_rest-left.ensures.left
