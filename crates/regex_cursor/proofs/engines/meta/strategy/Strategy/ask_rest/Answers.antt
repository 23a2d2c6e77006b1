use Rattle.std.proofs.Common.{IfSome, subst}
use Rattle.rx_steps.specs.Searching.{search_of}
use Rattle.rx_chunk.proofs.EngineLaws.{if_ok}
use Rattle.regex_cursor.specs.Strategies.{IsLeft}
use Rattle.regex_cursor.proofs.StartLaws.{same_search}
use Rattle.regex_cursor.proofs.engines.meta.strategy.Strategy.ask_rest.Goals as goal

pub returns-in-Some-clause-left : goal.returns-in-Some-clause-left
returns-in-Some-clause-left g c =
    let re = c.args.self.now.vm in
    subst (λ o. IfSome o (IsLeft re.program (search_of re.utf8_empty c.args.input.now))) c.in-Some.is c.in_ok-left.ensures.left

pub returns-in-None-clause-left : goal.returns-in-None-clause-left
returns-in-None-clause-left g c =
    let re = c.args.self.now.vm in
    let same = same_search re.utf8_empty c.args.input.now c.ask_back.new.input c.in_ok-left.ensures.same c.in_ok-left.ensures.asked in
    if_ok c.ask_forward.result (λ left is. subst (λ s. IsLeft re.program s left) same is) c.ask_forward.ensures.left
