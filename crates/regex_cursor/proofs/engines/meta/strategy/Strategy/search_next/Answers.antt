use Rattle.std.proofs.Common.{◌≡◌, ◌*◌, ◌≤◌, length, arith, sym, ap, subst, ◌∙◌}
use Rattle.std.specs.Option.{ForSome}
use Rattle.rx_util.specs.Captured.{Captured, group_span}
use Rattle.rx_steps.specs.Searching.{search_of}
use Rattle.rx_chunk.specs.Iterating.{HasNotedNext, IsNextAnswer}
use Rattle.rx_chunk.proofs.EngineLaws.{lent_slots}
use Rattle.rx_chunk.proofs.NextLaws.{next_ends, noted_next}
use Rattle.rx_chunk.specs.Engines.{EngineFinds}
use Rattle.rx_chunk.proofs.FoundLaws.{notes_places}
use Rattle.regex_cursor.proofs.engines.meta.strategy.Strategy.search_next.Goals as goal

-- what the captures have noted then, whose whole match is in order
noted : (g : _) (c : goal.After-set_pattern-2 g) → HasNotedNext (EngineFinds c.args.self.now.vm) (search_of c.args.self.now.vm.utf8_empty c.args.input.now) c.args.last_match_end c.set_pattern-2.new.self
    × ForSome (group_span c.set_pattern-2.new.self 0) (λ x. x.start ≤ x.end)
noted g c =
    let vm = c.args.self.now.vm in
    let s = search_of vm.utf8_empty c.args.input.now in
    let last = c.args.last_match_end in
    let slots = c.next_slots.new.slots in
    let before = c.set_pattern.new.self in
    let len : length slots ≡ length before.slots = grind (arith, c.slots_mut.ensures.slots) in
    let caps = c.set_pattern-2.new.self in
    let answer : IsNextAnswer (EngineFinds vm) s last caps.pattern caps.slots =
    subst (λ (x : Captured). IsNextAnswer (EngineFinds vm) s last x.pattern x.slots) (sym c.set_pattern-2.ensures)
    (subst (λ xs. IsNextAnswer (EngineFinds vm) s last c.in_ok-found.found xs) (sym (lent_slots before slots len)) c.in_ok-found.ensures.answer) in
    let groups : caps.groups ≡ vm.groups = ap (λ (x : Captured). x.groups) c.set_pattern-2.ensures ∙ ap (λ (x : Captured). x.groups) c.set_pattern.ensures ∙ c.requires.groups in
    let filled : length caps.slots ≡ length slots = ap length (ap (λ (x : Captured). x.slots) c.set_pattern-2.ensures ∙ lent_slots before slots len) in
    let as_before : length before.slots ≡ length c.args.caps.now.slots = ap (λ (x : Captured). length x.slots) c.set_pattern.ensures in
    let room : 2 * length vm.groups ≤ length caps.slots = omega (arith, filled, len, as_before, c.requires.slots) in
    noted_next vm (notes_places vm c.next_slots.ensures.engine) s last caps groups room answer

pub returns-clause-answer : goal.returns-clause-answer
returns-clause-answer g c = (noted g c).0

pub returns-clause-ordered : goal.returns-clause-ordered
returns-clause-ordered g c = (noted g c).1

pub returns-clause-ahead : goal.returns-clause-ahead
returns-clause-ahead g c =
    next_ends c.args.self.now.vm (search_of c.args.self.now.vm.utf8_empty c.args.input.now) c.args.last_match_end c.set_pattern-2.new.self (noted g c).0
