use Rattle.std.proofs.Common.{◌≡◌, ℕ, Some, sym, ap₂, subst, arith}
use Rattle.rx_util.specs.Search.{HalfFound}
use Rattle.rx_steps.specs.Searching.{search_of}
use Rattle.rx_chunk.specs.Engines.{EngineFinds}
use Rattle.rx_chunk.specs.Iterating.{IsNextAnswer}
use Rattle.regex_cursor.specs.Linear.{TellsWhatComes}
use Rattle.regex_cursor.proofs.LinearLaws.{places_ordered, tells_next, tells_none}
use Rattle.regex_cursor.proofs.engines.meta.linear.find_on.Goals as goal

pub end_in-requires : goal.end_in-requires
end_in-requires g c =
    let re = c.args.re.now.engine in
    let s = search_of re.utf8_empty c.args.input.now in
    let slots = c.next_slots_with.new.slots in
    let answer = subst (λ o. IsNextAnswer (EngineFinds re) s c.args.last_end o slots) c.in-Some.is c.in_ok-pattern.ensures.answer in
    record { ordered = places_ordered re c.group_info-groups.ensures.regex s c.args.last_end c.in-Some.pattern slots (omega (arith, c.requires.slots)) answer }

pub returns-in-Some-clause-answer : goal.returns-in-Some-clause-answer
returns-in-Some-clause-answer g c =
    let re = c.args.re.now.engine in
    let s = search_of re.utf8_empty c.args.input.now in
    let slots = c.next_slots_with.new.slots in
    let answer = subst (λ o. IsNextAnswer (EngineFinds re) s c.args.last_end o slots) c.in-Some.is c.in_ok-pattern.ensures.answer in
    let half : HalfFound = record { pattern = c.in-Some.pattern; offset = c.end_in.result } in
    let is : half ≡ c.new.result = ap₂ (λ (k x : ℕ). record { pattern = k; offset = x }) (sym c.new.ensures.pattern) (sym c.new.ensures.offset) in
    subst (λ (h : HalfFound). TellsWhatComes (EngineFinds re) s c.args.last_end (Some h) slots) is
    (tells_next re c.group_info-groups.ensures.regex s c.args.last_end c.in-Some.pattern slots (omega (arith, c.requires.slots)) c.end_in.result c.end_in.ensures answer)

pub returns-in-None-clause-answer : goal.returns-in-None-clause-answer
returns-in-None-clause-answer g c =
    let re = c.args.re.now.engine in
    let s = search_of re.utf8_empty c.args.input.now in
    let slots = c.next_slots_with.new.slots in
    tells_none (EngineFinds re) s c.args.last_end slots (subst (λ o. IsNextAnswer (EngineFinds re) s c.args.last_end o slots) c.in-None.is c.in_ok-pattern.ensures.answer)
