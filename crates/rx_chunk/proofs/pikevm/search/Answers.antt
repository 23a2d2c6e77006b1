use Rattle.std.proofs.Common.{◌≡◌, ◌*◌, ◌≤◌, ◌<◌, ◌^◌, length, subst, ◌∙◌, arith}
use Rattle.std.specs.Prelude.{OnOk}
use Rattle.std.specs.Option.{ForSome}
use Rattle.rx_steps.specs.Searching.{search_of}
use Rattle.rx_chunk.specs.Engines.{IsAnswerAt, StopsAs}
use Rattle.rx_chunk.proofs.EngineLaws.{on_ok}
use Rattle.rx_chunk.proofs.EarlyLaws.{AreFoundAt, captured_at, tells_slots}
use Rattle.rx_chunk.proofs.FoundLaws.{notes_places}
use Rattle.rx_chunk.proofs.pikevm.search.Goals as goal

-- the result, for the settings of the input
answered : (g : _) (c : goal.After-note g) → OnOk c.note.result (IsAnswerAt c.args.input.now.asked.earliest c.args.vm.now (search_of c.args.vm.now.utf8_empty c.args.input.now) c.note.new.input.position c.note.new.caps.pattern c.note.new.caps.slots)
answered g c =
    let e = c.args.vm.now in
    let s = search_of c.args.vm.now.utf8_empty c.args.input.now in
    on_ok c.note.result (λ is. subst (λ b. IsAnswerAt b e s c.note.new.input.position c.note.new.caps.pattern c.note.new.caps.slots) c.get_earliest-earliest.ensures is) c.note.ensures.answer

-- the whole match in captures, if they were those of the engine
told : (g : _) (c : goal.After-note g) → c.args.caps.now.groups ≡ c.args.vm.now.groups → 2 * length c.args.vm.now.groups ≤ length c.args.caps.now.slots
    → IsAnswerAt c.args.input.now.asked.earliest c.args.vm.now (search_of c.args.vm.now.utf8_empty c.args.input.now) c.note.new.input.position c.note.new.caps.pattern c.note.new.caps.slots
    → AreFoundAt c.args.input.now.asked.earliest c.args.vm.now (search_of c.args.vm.now.utf8_empty c.args.input.now) c.note.new.caps
told g c same room is =
    let s = search_of c.args.vm.now.utf8_empty c.args.input.now in
    let caps = c.note.new.caps in
    let few : 2 * length c.args.vm.now.groups ≤ length caps.slots = omega (arith, room, c.note.ensures.slot_len) in
    captured_at c.args.input.now.asked.earliest c.args.vm.now s c.note.new.input.position caps (notes_places c.args.vm.now c.note.ensures.engine)
    (c.note.ensures.groups ∙ same) few is

pub returns-clause-answer : goal.returns-clause-answer
returns-clause-answer g c =
    let s = search_of c.args.vm.now.utf8_empty c.args.input.now in
    let caps = c.note.new.caps in
    on_ok c.note.result (λ is. tells_slots c.args.input.now.asked.earliest c.args.vm.now s c.note.new.input.position caps.pattern caps.slots is) (answered g c)

pub returns-clause-stops : goal.returns-clause-stops
returns-clause-stops g c =
    let s = search_of c.args.vm.now.utf8_empty c.args.input.now in
    on_ok c.note.result (λ stops. subst (λ b. ForSome c.note.new.caps.pattern (λ _. StopsAs c.args.vm.now.match_kind b c.args.vm.now.program s c.note.new.input.position)) c.get_earliest-earliest.ensures stops) c.note.ensures.stops

pub returns-clause-whole : goal.returns-clause-whole
returns-clause-whole g c = λ holds.
    let content : length c.args.input.now.cursor.content < 2 ^ 63 = c.note.ensures.bound in
    on_ok c.note.result
    (λ is.
    let are = told g c holds.0 holds.1 is in
    record {
      match = are.tells;
      ordered = are.ordered;
      inside = λ a some. (let ends = are.inside a some in record { behind_start = ends.on; before_end = ends.in_span; fits = omega (arith, ends.in_content, content) });
    })
    (answered g c)
