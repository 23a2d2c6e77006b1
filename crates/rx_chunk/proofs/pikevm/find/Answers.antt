use Rattle.std.proofs.Common.{◌<◌, ◌^◌, length, subst, arith}
use Rattle.std.specs.Option.{ForSome}
use Rattle.rx_steps.specs.Searching.{search_of}
use Rattle.rx_chunk.specs.Engines.{IsFoundAt, StopsAs}
use Rattle.rx_chunk.proofs.EngineLaws.{if_both, if_ok}
use Rattle.rx_chunk.proofs.EarlyLaws.{found_inside, tells_match}
use Rattle.rx_chunk.proofs.pikevm.find.Goals as goal

pub returns-clause-answer : goal.returns-clause-answer
returns-clause-answer g c =
    let e = c.args.vm.now in
    let s = search_of e.utf8_empty c.args.input.now in
    let i = c.look_for.new.input.position in
    if_ok c.look_for.result (λ found is. tells_match c.args.input.now.asked.earliest e s i found (subst (λ b. IsFoundAt b e s i found) c.get_earliest-earliest.ensures is)) c.look_for.ensures.answer

pub returns-clause-stops : goal.returns-clause-stops
returns-clause-stops g c =
    let e = c.args.vm.now in
    let s = search_of e.utf8_empty c.args.input.now in
    let i = c.look_for.new.input.position in
    if_ok c.look_for.result (λ found stops. subst (λ b. ForSome found (λ _. StopsAs e.match_kind b e.program s i)) c.get_earliest-earliest.ensures stops) c.look_for.ensures.stops

pub returns-clause-inside : goal.returns-clause-inside
returns-clause-inside g c =
    let e = c.args.vm.now in
    let s = search_of e.utf8_empty c.args.input.now in
    let i = c.look_for.new.input.position in
    if_both c.look_for.result
    (λ found is bound a some.
    let content : length c.args.input.now.cursor.content < 2 ^ 63 = bound in
    let ends = found_inside c.args.input.now.asked.earliest e s i found (subst (λ b. IsFoundAt b e s i found) c.get_earliest-earliest.ensures is) a some in
    record { behind_start = ends.on; before_end = ends.in_span; fits = omega (arith, ends.in_content, content) })
    c.look_for.ensures.answer c.look_for.ensures.bound
