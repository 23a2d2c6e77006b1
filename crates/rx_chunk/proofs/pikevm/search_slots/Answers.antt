use Rattle.std.proofs.Common.{subst}
use Rattle.std.specs.Option.{ForSome}
use Rattle.rx_steps.specs.Searching.{search_of}
use Rattle.rx_chunk.specs.Engines.{IsAnswerAt, StopsAs}
use Rattle.rx_chunk.proofs.EngineLaws.{if_ok}
use Rattle.rx_chunk.proofs.EarlyLaws.{tells_slots}
use Rattle.rx_chunk.proofs.pikevm.search_slots.Goals as goal

pub returns-clause-answer_at : goal.returns-clause-answer_at
returns-clause-answer_at g c =
    let e = c.args.vm.now in
    let s = search_of c.args.vm.now.utf8_empty c.args.input.now in
    let i = c.seek.new.input.position in
    let slots = c.seek.new.slots in
    if_ok c.seek.result (λ pattern is. subst (λ b. IsAnswerAt b e s i pattern slots) c.get_earliest-earliest.ensures is) c.seek.ensures.answer

pub returns-clause-answer : goal.returns-clause-answer
returns-clause-answer g c =
    let e = c.args.vm.now in
    let s = search_of c.args.vm.now.utf8_empty c.args.input.now in
    let i = c.seek.new.input.position in
    let slots = c.seek.new.slots in
    if_ok c.seek.result (λ pattern is. tells_slots c.args.input.now.asked.earliest e s i pattern slots is) (returns-clause-answer_at g c)

pub returns-clause-stops : goal.returns-clause-stops
returns-clause-stops g c =
    let e = c.args.vm.now in
    let s = search_of c.args.vm.now.utf8_empty c.args.input.now in
    let i = c.seek.new.input.position in
    if_ok c.seek.result (λ pattern stops. subst (λ b. ForSome pattern (λ _. StopsAs e.match_kind b e.program s i)) c.get_earliest-earliest.ensures stops) c.seek.ensures.stops
