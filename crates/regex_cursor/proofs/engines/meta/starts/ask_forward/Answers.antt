use Rattle.std.proofs.Common.{IfSome, subst}
use Rattle.rx_chunk.proofs.EngineLaws.{if_ok}
use Rattle.regex_cursor.specs.Backs.{IsWhole}
use Rattle.regex_cursor.specs.Strategies.{IsLeft}
use Rattle.regex_cursor.proofs.StartLaws.{same_search}
use Rattle.regex_cursor.proofs.engines.meta.starts.ask_forward.Goals as goal

pub returns-in-Some-clause-left : goal.returns-in-Some-clause-left
returns-in-Some-clause-left g c =
    let vm = c.args.strategy.now.vm in
    subst (λ o. IfSome o (IsWhole vm.program vm.utf8_empty c.args.input.now)) c.in-Some.is c.in_ok-found.ensures.whole

pub returns-in-None-clause-left : goal.returns-in-None-clause-left
returns-in-None-clause-left g c =
    let vm = c.args.strategy.now.vm in
    let same = same_search vm.utf8_empty c.args.input.now c.match_here.new.input c.in_ok-found.ensures.same c.in_ok-found.ensures.asked in
    if_ok c.ask_part-in-None.result (λ left is. subst (λ s. IsLeft vm.program s left) same is) c.ask_part-in-None.ensures.left
