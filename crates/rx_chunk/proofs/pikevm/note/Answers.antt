use Rattle.std.proofs.Common.{◌≡◌, length, sym, subst, arith}
use Rattle.rx_util.specs.Captured.{Captured}
use Rattle.rx_steps.specs.Searching.{search_of}
use Rattle.rx_chunk.specs.Engines.{IsAnswerAt}
use Rattle.rx_chunk.proofs.EngineLaws.{lent_slots}
use Rattle.rx_chunk.proofs.pikevm.note.Goals as goal

-- the result in the captures
pub returns-clause-answer : goal.returns-clause-answer
returns-clause-answer g c =
    let e = c.args.vm.now in
    let s = search_of c.args.vm.now.utf8_empty c.args.input.now in
    let i = c.seek.new.input.position in
    let slots = c.seek.new.slots in
    let before = c.set_pattern.new.self in
    let len : length slots ≡ length before.slots = grind (arith, c.slots_mut.ensures.slots) in
    subst (λ (x : Captured). IsAnswerAt c.args.earliest e s i x.pattern x.slots) (sym c.set_pattern-2.ensures)
    (subst (λ xs. IsAnswerAt c.args.earliest e s i c.in_ok-pattern.pattern xs) (sym (lent_slots before slots len)) c.in_ok-pattern.ensures.answer)
