use Rattle.std.proofs.Common.{◌*◌, ◌≤◌, length, arith}
use Rattle.rx_steps.specs.Searching.{search_of}
use Rattle.rx_chunk.proofs.EarlyLaws.{nothing_at, match_at, match_in_order}
use Rattle.rx_chunk.proofs.FoundLaws.{notes_places}
use Rattle.rx_chunk.proofs.pikevm.look_for.Goals as goal

pub returns-in_default-clause-answer : goal.returns-in_default-clause-answer
returns-in_default-clause-answer g c =
    nothing_at c.args.earliest c.args.vm.now (search_of c.args.vm.now.utf8_empty c.args.input.now) c.seek.new.input.position c.in_ok-found.found c.seek.new.slots c.in_default.is c.in_ok-found.ensures.answer

pub match_in-requires : goal.match_in-requires
match_in-requires g c =
    let vm = c.args.vm.now in
    let s = search_of vm.utf8_empty c.args.input.now in
    let slots = c.seek.new.slots in
    let room : 2 * length vm.groups ≤ length slots = omega (arith, c.in_ok-slots.ensures.room) in
    record {
      ordered = match_in_order c.args.earliest vm s c.seek.new.input.position c.in_ok-found.found c.in-Some.pattern slots (notes_places vm c.seek.ensures.engine)
          room c.in-Some.is c.in_ok-found.ensures.answer;
    }

pub returns-clause-answer : goal.returns-clause-answer
returns-clause-answer g c =
    let vm = c.args.vm.now in
    let s = search_of vm.utf8_empty c.args.input.now in
    let slots = c.seek.new.slots in
    let room : 2 * length vm.groups ≤ length slots = omega (arith, c.in_ok-slots.ensures.room) in
    match_at c.args.earliest vm s c.seek.new.input.position c.in_ok-found.found c.in-Some.pattern slots c.match_in.result (notes_places vm c.seek.ensures.engine) room c.in-Some.is
    c.match_in.ensures c.in_ok-found.ensures.answer

pub returns-clause-stops : goal.returns-clause-stops
returns-clause-stops g c = λ m is. c.in_ok-found.ensures.stops c.in-Some.pattern c.in-Some.is
