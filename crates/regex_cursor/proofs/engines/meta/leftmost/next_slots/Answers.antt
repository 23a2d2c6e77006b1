use Rattle.std.proofs.Common.{length, subst}
use Rattle.rx_steps.specs.Searching.{search_of}
use Rattle.rx_chunk.specs.Engines.{EngineFinds}
use Rattle.rx_chunk.specs.Iterating.{IsNextAnswer}
use Rattle.rx_chunk.proofs.EngineLaws.{if_ok}
use Rattle.regex_cursor.specs.Strategies.{IsNextLeft}
use Rattle.regex_cursor.proofs.StrategyLaws.{cut_search, next_there, nothing_comes, whole_is_span, whole_next}
use Rattle.regex_cursor.proofs.engines.meta.leftmost.next_slots.Goals as goal

pub cut-whole-requires : goal.cut-whole-requires
cut-whole-requires g c = (next_there c.args.strategy.now.vm.program (search_of c.args.strategy.now.vm.utf8_empty c.args.input.now) c.args.last_match_end _ c.in-Some.part c.in_ok-part.ensures.next c.in-Some.is).holds.ordered

pub put_back-requires : goal.put_back-requires
put_back-requires g c =
    let re = c.args.strategy.now.vm in
    whole_is_span re.program re.utf8_empty c.args.input.now c.next_part.new.input c.in-Some.part.span c.cut-whole.result (next_there c.args.strategy.now.vm.program (search_of c.args.strategy.now.vm.utf8_empty c.args.input.now) c.args.last_match_end _ c.in-Some.part c.in_ok-part.ensures.next c.in-Some.is).holds c.in_ok-part.ensures.asked c.cut-whole.ensures.whole

pub returns-clause-answer : goal.returns-clause-answer
returns-clause-answer g c =
    let i = c.args.input.now in
    let re = c.args.strategy.now.vm in
    let part = c.in-Some.part.span in
    let k = c.cut-whole.new.input in
    let search = cut_search re.utf8_empty i c.next_part.new.input k part c.in_ok-part.ensures.same c.in_ok-part.ensures.asked c.cut-whole.ensures.same c.cut-whole.ensures.asked in
    let last = c.args.last_match_end in
    let slots = c.walk_to_next-found.new.slots in
    if_ok c.walk_to_next-found.result
    (λ pattern is. whole_next re c.requires.first (search_of re.utf8_empty i) last part (next_there c.args.strategy.now.vm.program (search_of c.args.strategy.now.vm.utf8_empty c.args.input.now) c.args.last_match_end _ c.in-Some.part c.in_ok-part.ensures.next c.in-Some.is) pattern slots
    (subst (λ x. IsNextAnswer (EngineFinds re) x last pattern slots) search is))
    c.walk_to_next-found.ensures.answer

pub returns-in_default-clause-answer : goal.returns-in_default-clause-answer
returns-in_default-clause-answer g c =
    let re = c.args.strategy.now.vm in
    let s = search_of re.utf8_empty c.args.input.now in
    let none = subst (λ o. IsNextLeft re.program s c.args.last_match_end o) c.in_default.is c.in_ok-part.ensures.next in
    nothing_comes re c.requires.first s c.args.last_match_end c.clear_few.new.slots (length c.args.slots.now) none c.clear_few.ensures.all
