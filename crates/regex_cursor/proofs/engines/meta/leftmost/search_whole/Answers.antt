use Rattle.std.proofs.Common.{◌≡◌, ◌<◌, ◌^◌, None, false, length, arith, sym, ap, subst, ◌∙◌}
use Rattle.std.proofs.lemmas.List.{length-replicate}
use Rattle.rx_util.specs.Captured.{Captured, match_found}
use Rattle.rx_steps.specs.Searching.{search_of}
use Rattle.rx_chunk.specs.Engines.{EngineFinds, IsAnswer, TellsMatch}
use Rattle.rx_chunk.specs.Searches as searches
use Rattle.rx_chunk.proofs.EarlyLaws.{captured_at}
use Rattle.rx_chunk.proofs.EngineLaws.{lent_slots}
use Rattle.rx_chunk.proofs.FoundLaws.{notes_places}
use Rattle.regex_cursor.proofs.engines.meta.leftmost.search_whole.Goals as goal

-- what the captures return then
told : (g : _) (c : goal.After-set_pattern g) → searches.TellsSlots c.args.strategy.now.vm c.args.input.now c.set_pattern.new.self.pattern c.set_pattern.new.self.slots
told g c =
    let vm = c.args.strategy.now.vm in
    let i = c.args.input.now in
    let slots = c.search_slots.new.slots in
    let before = c.note_nothing.new.caps in
    let len : length slots ≡ length before.slots = grind (arith, c.slots_mut.ensures.slots) in
    subst (λ (x : Captured). searches.TellsSlots vm i x.pattern x.slots) (sym c.set_pattern.ensures)
    (subst (λ xs. searches.TellsSlots vm i c.in_ok-found.found xs) (sym (lent_slots before slots len)) c.in_ok-found.ensures.answer)

pub returns-clause-answer : goal.returns-clause-answer
returns-clause-answer g c = told g c

pub returns-clause-whole : goal.returns-clause-whole
returns-clause-whole g c = λ holds.
    let vm = c.args.strategy.now.vm in
    let i = c.args.input.now in
    let s = search_of vm.utf8_empty i in
    let caps = c.set_pattern.new.self in
    let slots = c.search_slots.new.slots in
    let before = c.note_nothing.new.caps in
    let len : length slots ≡ length before.slots = grind (arith, c.slots_mut.ensures.slots) in
    let filled : length caps.slots ≡ length before.slots = ap length (ap (λ (x : Captured). x.slots) c.set_pattern.ensures ∙ lent_slots before slots len) ∙ len in
    let groups : caps.groups ≡ vm.groups = ap (λ (x : Captured). x.groups) c.set_pattern.ensures ∙ ap (λ (x : Captured). x.groups) c.note_nothing.ensures.nothing ∙ holds.0 in
    let as_before : length before.slots ≡ length c.args.caps.now.slots = ap (λ (x : Captured). length x.slots) c.note_nothing.ensures.nothing ∙ length-replicate (length c.args.caps.now.slots) None in
    let answer : IsAnswer (EngineFinds vm) s caps.pattern caps.slots = (told g c).exact c.requires.exact in
    let are = captured_at false vm s 0 caps (notes_places vm c.vm-vm.ensures.engine) groups (omega (arith, filled, as_before, holds.1)) answer in
    let bound : length i.cursor.content < 2 ^ 63 = c.position-at.ensures.holds.lawful.bound in
    record {
      match = subst (λ b. TellsMatch b (EngineFinds vm) s (match_found caps)) (sym c.requires.exact) are.tells;
      ordered = are.ordered;
      inside = λ a some. (let ends = are.inside a some in record { behind_start = ends.on; before_end = ends.in_span; fits = omega (arith, ends.in_content, bound) });
    }
