use Rattle.std.proofs.Common.{Some, IfSome, subst}
use Rattle.rx_steps.specs.Searching.{search_of}
use Rattle.regex_cursor.specs.Backs.{EndsLast, IsWhole}
use Rattle.rx_matches.proofs.HalfLaws.{whole_inside}
use Rattle.regex_cursor.proofs.BackLaws.{found_told}
use Rattle.regex_cursor.proofs.engines.meta.leftmost.find_in.Goals as goal

pub whole_match-requires-clause-known : goal.whole_match-requires-clause-known
whole_match-requires-clause-known g c =
    let re = c.args.strategy.now.vm in
    subst (λ o. IfSome o (EndsLast re.program re.utf8_empty c.args.input.now)) c.in-Some.is c.requires.known

pub returns-in-Some-2-clause-answer : goal.returns-in-Some-2-clause-answer
returns-in-Some-2-clause-answer g c =
    let re = c.args.strategy.now.vm in
    let i = c.args.input.now in
    let whole = subst (λ o. IfSome o (IsWhole re.program re.utf8_empty i)) c.in-Some-2.is c.in_ok-found.ensures.whole in
    found_told re c.requires.first (search_of re.utf8_empty i) c.in-Some-2.found i.asked.earliest whole

pub returns-in-Some-2-clause-inside : goal.returns-in-Some-2-clause-inside
returns-in-Some-2-clause-inside g c =
    let re = c.args.strategy.now.vm in
    let i = c.args.input.now in
    let whole = subst (λ o. IfSome o (IsWhole re.program re.utf8_empty i)) c.in-Some-2.is c.in_ok-found.ensures.whole in
    whole_inside re.program re.utf8_empty i (Some c.in-Some-2.found) c.whole_match.ensures.bound whole
