use Rattle.std.proofs.Common.{◌≡◌, ◌<◌, ◌≤◌, ◌^◌, Some, length, sym, ap, subst, ◌∙◌}
use Rattle.rx_util.specs.declared.search.Span.{Span}
use Rattle.rx_steps.specs.Searching.{answer_slots, search_of}
use Rattle.rx_literals.specs.Literals.{literal_match}
use Rattle.rx_chunk.specs.Engines.{EngineFinds, TellsSlots}
use Rattle.regex_cursor.specs.Strategies.{IsPart}
use Rattle.regex_cursor.proofs.BackLaws.{slots_told, whole_fits}
use Rattle.regex_cursor.proofs.LastLaws.{found_left}
use Rattle.regex_cursor.proofs.OtherLaws.{found_elsewhere}
use Rattle.regex_cursor.proofs.StrategyLaws.{slots_length}
use Rattle.regex_cursor.proofs.engines.meta.leftmost.slots_of_found.Goals as goal

pub slots_of_part-requires-clause-part : goal.slots_of_part-requires-clause-part
slots_of_part-requires-clause-part g c =
    let re = c.args.strategy.now.vm in
    let s = search_of re.utf8_empty c.args.input.now in
    subst (λ x. IsPart re.program s x) (sym c.of.ensures) (found_left re.program s c.args.found c.requires.found)

pub returns-then-not-is_first-clause-answer : goal.returns-then-not-is_first-clause-answer
returns-then-not-is_first-clause-answer g c =
    let re = c.args.strategy.now.vm in
    let i = c.args.input.now in
    let s = search_of re.utf8_empty i in
    let found = c.args.found in
    let slots = c.args.slots.now in
    subst (λ k. TellsSlots i.asked.earliest (EngineFinds re) s (Some k) slots) (sym c.pattern-then-not-is_first.ensures)
    (found_elsewhere re c.requires.first c.vm-vm.ensures.engine s found i.asked.earliest (length slots) slots c.requires.found
    (λ zero_is. c.is_first.ensures.other c.if-not-is_first.true (c.pattern.ensures ∙ zero_is)) (c.asks_whole.ensures c.if-not-asks_whole.false) c.requires.clear)

pub put_match-requires : goal.put_match-requires
put_match-requires g c =
    let re = c.args.strategy.now.vm in
    let fits = whole_fits re.program re.utf8_empty c.args.input.now c.args.found c.position-at.ensures.holds.lawful.bound c.requires.found in
    record { start = subst (λ (x : Span). x.start < 2 ^ 63) (sym c.span.ensures.span) fits.0; end = subst (λ (x : Span). x.end < 2 ^ 63) (sym c.span.ensures.span) fits.1 }

pub returns-clause-answer : goal.returns-clause-answer
returns-clause-answer g c =
    let re = c.args.strategy.now.vm in
    let i = c.args.input.now in
    let found = c.args.found in
    let n = length c.args.slots.now in
    let zero_is : found.pattern ≡ 0 = sym c.pattern.ensures ∙ c.is_first.ensures.first c.if-not-is_first.false in
    let slots_are : c.put_match.new.slots ≡ answer_slots n (Some (literal_match found.span)) = c.put_match.ensures ∙ ap (λ (x : Span). answer_slots n (Some (literal_match x))) c.span.ensures.span in
    let len : length c.put_match.new.slots ≡ n = ap length slots_are ∙ slots_length 0 n (literal_match found.span).notes in
    let few : n ≤ 2 = c.asks_whole.ensures c.if-not-asks_whole.false in
    slots_told re c.requires.first (search_of re.utf8_empty i) found c.vm-vm.ensures.engine i.asked.earliest c.put_match.new.slots n few len zero_is slots_are c.requires.found
