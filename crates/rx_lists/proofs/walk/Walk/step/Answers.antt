use Rattle.std.proofs.Common.{subst}
use Rattle.rx_steps.specs.Lists.{IsPlace}
use Rattle.rx_steps.specs.Searching.{search_of, haystack_in}
use Rattle.rx_steps.proofs.FollowLaws.{if_ok}
use Rattle.rx_lists.proofs.walk.Walk.step.Goals as goal

pub returns-clause-steps : goal.returns-clause-steps
returns-clause-steps g c =
    if_ok c.next_list.result (λ met list utf8_empty inside.
    let p = c.args.program.now in
    let i = c.args.input.now.position in
    let s = search_of utf8_empty c.args.input.now in
    let here : IsPlace p.states (haystack_in p.line_terminator s) i c.of-place.result =
    subst (λ t. IsPlace p.states (haystack_in t s) i c.of-place.result) c.line_terminator.ensures (c.of-place.ensures.place p.states utf8_empty inside c.requires.ready.looks) in
    list (haystack_in p.line_terminator s) i here) c.next_list.ensures.list
