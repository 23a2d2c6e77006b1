use Rattle.std.proofs.Common.{◌≡◌, ◌<◌, ◌^◌, Some, length, sym, ap, subst, ◌∙◌}
use Rattle.rx_util.specs.declared.search.Span.{Span}
use Rattle.rx_literals.specs.Literals.{literal_match}
use Rattle.rx_steps.specs.Searching.{answer_slots, search_of}
use Rattle.rx_chunk.specs.Engines.{EngineFinds}
use Rattle.rx_chunk.specs.Iterating.{IsFoundNext, IsNextAnswer}
use Rattle.regex_cursor.proofs.FurtherLaws.{next_fits, next_told, none_next_told}
use Rattle.regex_cursor.proofs.StrategyLaws.{slots_length}
use Rattle.regex_cursor.proofs.engines.meta.leftmost.next_whole.Goals as goal

pub put_match-requires : goal.put_match-requires
put_match-requires g c =
    let re = c.args.strategy.now.vm in
    let s = search_of re.utf8_empty c.args.input.now in
    let is = subst (λ o. IsFoundNext (EngineFinds re) s c.args.last_match_end o) c.in-Some.is c.in_ok-found.ensures.answer in
    let fits = next_fits re c.vm-vm.ensures.engine c.requires.first s c.args.last_match_end c.in-Some.found c.position-at.ensures.holds.lawful.bound is in
    record { start = subst (λ (x : Span). x.start < 2 ^ 63) (sym c.span.ensures.span) fits.0; end = subst (λ (x : Span). x.end < 2 ^ 63) (sym c.span.ensures.span) fits.1 }

pub returns-clause-answer : goal.returns-clause-answer
returns-clause-answer g c =
    let re = c.args.strategy.now.vm in
    let s = search_of re.utf8_empty c.args.input.now in
    let found = c.in-Some.found in
    let n = length c.args.slots.now in
    let is = subst (λ o. IsFoundNext (EngineFinds re) s c.args.last_match_end o) c.in-Some.is c.in_ok-found.ensures.answer in
    let slots_are : c.put_match.new.slots ≡ answer_slots n (Some (literal_match found.span)) = c.put_match.ensures ∙ ap (λ (x : Span). answer_slots n (Some (literal_match x))) c.span.ensures.span in
    let len : length c.put_match.new.slots ≡ n = ap length slots_are ∙ slots_length 0 n (literal_match found.span).notes in
    let told = next_told re c.vm-vm.ensures.engine c.requires.first s c.args.last_match_end found c.put_match.new.slots n c.requires.few c.requires.slots len slots_are is in
    subst (λ k. IsNextAnswer (EngineFinds re) s c.args.last_match_end (Some k) c.put_match.new.slots) (sym c.pattern.ensures) told

pub returns-in_default-clause-answer : goal.returns-in_default-clause-answer
returns-in_default-clause-answer g c =
    let re = c.args.strategy.now.vm in
    let s = search_of re.utf8_empty c.args.input.now in
    let is = subst (λ o. IsFoundNext (EngineFinds re) s c.args.last_match_end o) c.in_default.is c.in_ok-found.ensures.answer in
    none_next_told re s c.args.last_match_end c.args.slots.now (length c.args.slots.now) c.requires.clear is
