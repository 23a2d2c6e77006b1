use Rattle.std.proofs.Common.{slice_get, sym, ap, subst, ◌∙◌}
use Rattle.rx_steps.specs.Lists.{IsPlace}
use Rattle.rx_steps.specs.Searching.{search_of, haystack_in}
use Rattle.rx_steps.proofs.FollowLaws.{on_ok}
use Rattle.rx_steps.proofs.PlaceLaws.{moves_at_place}
use Rattle.rx_lists.proofs.NodeLaws.{moves_of}
use Rattle.rx_lists.proofs.pass_back.PassBack.pass.Goals as goal

pub returns-in-Some-clause-leading : goal.returns-in-Some-clause-leading
returns-in-Some-clause-leading g c =
    let p = c.args.program.now in
    let i = c.args.input.now.position in
    let told = c.in-Some.ensures.told p c.requires.ready in
    on_ok c.take.result (λ taken utf8_empty inside next.
    let s = search_of utf8_empty c.args.input.now in
    let here : IsPlace p.states (haystack_in p.line_terminator s) i c.of-place.result =
    subst (λ t. IsPlace p.states (haystack_in t s) i c.of-place.result) c.line_terminator.ensures (c.of-place.ensures.place p.states utf8_empty inside c.requires.ready.looks) in
    told c.take.new.self.set.value (ap (λ k. slice_get k.sets c.in-Some.to) (sym c.take.ensures.known) ∙ taken) s i inside (moves_of (moves_at_place p (haystack_in p.line_terminator s) i c.of-place.result here)) next) c.take.ensures.taken

pub returns-in-None-clause-leading : goal.returns-in-None-clause-leading
returns-in-None-clause-leading g c =
    let p = c.args.program.now in
    let i = c.args.input.now.position in
    on_ok c.make_before.result (λ before utf8_empty inside next.
    let s = search_of utf8_empty c.args.input.now in
    let here : IsPlace p.states (haystack_in p.line_terminator s) i c.of-place.result =
    subst (λ t. IsPlace p.states (haystack_in t s) i c.of-place.result) c.line_terminator.ensures (c.of-place.ensures.place p.states utf8_empty inside c.requires.ready.looks) in
    before s i inside (moves_of (moves_at_place p (haystack_in p.line_terminator s) i c.of-place.result here)) next) c.make_before.ensures.before
