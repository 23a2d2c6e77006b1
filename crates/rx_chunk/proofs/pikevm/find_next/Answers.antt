use Rattle.std.proofs.Common.{inl, ◌*◌, ◌≤◌, length, refl, arith}
use Rattle.rx_steps.specs.Searching.{search_of}
use Rattle.rx_chunk.proofs.IterLaws.{all_end}
use Rattle.rx_chunk.proofs.NextLaws.{found_next, in_order, nothing_next}
use Rattle.rx_chunk.specs.Engines.{EngineFinds}
use Rattle.rx_chunk.proofs.KindLaws.{inside_of}
use Rattle.rx_chunk.proofs.FoundLaws.{notes_places}
use Rattle.rx_chunk.proofs.pikevm.find_next.Goals as goal

pub returns-in_default-clause-answer : goal.returns-in_default-clause-answer
returns-in_default-clause-answer g c =
    let vm = c.args.vm.now in
    nothing_next vm (notes_places vm c.next_in.ensures.engine) (search_of vm.utf8_empty c.args.input.now) c.args.last_match_end c.in_ok-pattern.field-0 c.next_in.new.slots c.in_default.is c.in_ok-pattern.ensures.answer

pub match_in-requires : goal.match_in-requires
match_in-requires g c =
    let vm = c.args.vm.now in
    let slots = c.next_in.new.slots in
    let room : 2 * length vm.groups ≤ length slots = omega (arith, c.in_ok-slots.ensures.room) in
    record {
      ordered = in_order vm (notes_places vm c.next_in.ensures.engine) (search_of vm.utf8_empty c.args.input.now) c.args.last_match_end c.in_ok-pattern.field-0 c.in-Some.pattern slots
          c.in-Some.is room c.in_ok-pattern.ensures.answer;
    }

pub returns-clause-answer : goal.returns-clause-answer
returns-clause-answer g c =
    let vm = c.args.vm.now in
    let slots = c.next_in.new.slots in
    let room : 2 * length vm.groups ≤ length slots = omega (arith, c.in_ok-slots.ensures.room) in
    found_next vm (notes_places vm c.next_in.ensures.engine) (search_of vm.utf8_empty c.args.input.now) c.args.last_match_end c.in_ok-pattern.field-0 c.in-Some.pattern slots c.match_in.result c.in-Some.is room
    c.match_in.ensures c.in_ok-pattern.ensures.answer

pub returns-clause-ahead : goal.returns-clause-ahead
returns-clause-ahead g c =
    let vm = c.args.vm.now in
    all_end (EngineFinds vm) c.args.last_match_end (search_of vm.utf8_empty c.args.input.now) c.match_in.result (inside_of vm) (returns-clause-answer g c)

pub returns-in_err-slots-clause-same : goal.returns-in_err-slots-clause-same
returns-in_err-slots-clause-same g c = (c.args.input.now.asked.span.start, record { same = record { content = refl; is_sized = refl }; asked = refl })

pub returns-in_err-slots-clause-start : goal.returns-in_err-slots-clause-start
returns-in_err-slots-clause-start g c = inl refl
