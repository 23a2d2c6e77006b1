use Rattle.std.proofs.Common.{inl, inr, ◌≡◌, ◌+◌, ◌*◌, ◌≤◌, ◌<◌, ◌^◌, length, arith, ap, subst, ◌∙◌}
use Rattle.rx_walks.specs.Finds.{from_place_on}
use Rattle.rx_steps.specs.Searching.{search_of}
use Rattle.rx_chunk.specs.Engines.{EngineFinds, IsAnswer}
use Rattle.rx_chunk.specs.Iterating.{StartsFrom}
use Rattle.rx_chunk.proofs.EngineLaws.{if_ok}
use Rattle.rx_chunk.proofs.IterLaws.{moved_search, moved_on, same_start, set_to}
use Rattle.rx_chunk.proofs.NextLaws.{answer_starts, next_none, next_passed, next_some}
use Rattle.rx_chunk.proofs.KindLaws.{inside_of}
use Rattle.rx_chunk.proofs.FoundLaws.{notes_places}
use Rattle.rx_chunk.proofs.pikevm.next_in.Goals as goal

pub returns-in_default-clause-answer : goal.returns-in_default-clause-answer
returns-in_default-clause-answer g c =
    next_none (EngineFinds c.args.vm.now) (search_of c.args.vm.now.utf8_empty c.args.input.now) c.args.last_match_end c.in_ok-pattern.field-0 c.seek.new.slots c.in_default.is c.in_ok-pattern.ensures.answer

pub returns-then-not-is_empty_at_last-clause-answer : goal.returns-then-not-is_empty_at_last-clause-answer
returns-then-not-is_empty_at_last-clause-answer g c =
    let vm = c.args.vm.now in
    let room : 2 * length vm.groups ≤ length c.seek.new.slots = omega (arith, c.requires.slots) in
    next_some vm (notes_places vm c.seek.ensures.engine) (search_of vm.utf8_empty c.args.input.now) c.args.last_match_end c.in_ok-pattern.field-0 c.in-Some.pattern c.seek.new.slots c.in-Some.is room
    c.in_ok-pattern.ensures.answer (c.is_empty_at_last.ensures.elsewhere c.if-not-is_empty_at_last.true)

-- ---- where the span starts then
pub returns-in_err-pattern-clause-start : goal.returns-in_err-pattern-clause-start
returns-in_err-pattern-clause-start g c = inl (ap (λ a. a.span.start) c.in_err-pattern.ensures.asks.asked)

pub returns-in_default-clause-start : goal.returns-in_default-clause-start
returns-in_default-clause-start g c = inl (ap (λ a. a.span.start) c.in_ok-pattern.ensures.asks.asked)

pub returns-then-not-is_empty_at_last-clause-start : goal.returns-then-not-is_empty_at_last-clause-start
returns-then-not-is_empty_at_last-clause-start g c = inl (ap (λ a. a.span.start) c.in_ok-pattern.ensures.asks.asked)

pub returns-clause-start : goal.returns-clause-start
returns-clause-start g c =
    inr (ap (λ a. a.span.start) c.seek-2.ensures.asks.asked ∙ ap (λ a. a.span.start) c.set_start.ensures.asked_is
    ∙ ap (λ k. k + 1) (c.start-start.ensures ∙ ap (λ a. a.span.start) c.in_ok-pattern.ensures.asks.asked))

-- ---- an empty match there
pub overflow_add-start : goal.overflow_add-start
overflow_add-start g c =
    let i = c.args.input.now in
    let at = answer_starts (EngineFinds c.args.vm.now) (search_of c.args.vm.now.utf8_empty i) c.in_ok-pattern.field-0 c.in-Some.pattern c.seek.new.slots (inside_of c.args.vm.now) c.in-Some.is c.in_ok-pattern.ensures.answer in
    let content : length i.cursor.content < 2 ^ 63 = c.seek.ensures.bound in
    let start : c.start-start.result ≡ i.asked.span.start = c.start-start.ensures ∙ ap (λ a. a.span.start) c.in_ok-pattern.ensures.asks.asked in
    omega (arith, at.in_content, content, start)

pub set_start-requires : goal.set_start-requires
set_start-requires g c =
    let i = c.args.input.now in
    let at = answer_starts (EngineFinds c.args.vm.now) (search_of c.args.vm.now.utf8_empty i) c.in_ok-pattern.field-0 c.in-Some.pattern c.seek.new.slots (inside_of c.args.vm.now) c.in-Some.is c.in_ok-pattern.ensures.answer in
    let start : c.start-start.result ≡ i.asked.span.start = c.start-start.ensures ∙ ap (λ a. a.span.start) c.in_ok-pattern.ensures.asks.asked in
    let end : c.seek.new.input.asked.span.end ≡ i.asked.span.end = ap (λ a. a.span.end) c.in_ok-pattern.ensures.asks.asked in
    omega (arith, at.in_span, start, end)

pub returns-clause-answer : goal.returns-clause-answer
returns-clause-answer g c =
    let vm = c.args.vm.now in
    let b = vm.utf8_empty in
    let old = c.args.input.now in
    let s = search_of b old in
    let room : 2 * length vm.groups ≤ length c.seek.new.slots = omega (arith, c.requires.slots) in
    let same = same_start old c.seek.new.input c.in_ok-pattern.ensures.asks.same c.in_ok-pattern.ensures.asks.asked in
    let start = c.start-start.result + 1 in
    let starts : StartsFrom old c.set_start.new.self start =
    moved_on old c.seek.new.input c.set_start.new.self same.0 start same.1 (set_to c.seek.new.input c.set_start.new.self start c.set_start.ensures) in
    let search : search_of b c.set_start.new.self ≡ from_place_on s (s.start + 1) =
    moved_search b old c.set_start.new.self start starts ∙ ap (λ k. from_place_on s (k + 1)) (c.start-start.ensures ∙ ap (λ a. a.span.start) c.in_ok-pattern.ensures.asks.asked) in
    if_ok c.seek-2.result
    (λ next is. next_passed vm (notes_places vm c.seek.ensures.engine) s c.args.last_match_end c.in_ok-pattern.field-0 c.in-Some.pattern c.seek.new.slots next c.seek-2.new.slots c.in-Some.is room
    c.in_ok-pattern.ensures.answer (c.is_empty_at_last.ensures.here c.if-not-is_empty_at_last.false) (subst (λ x. IsAnswer (EngineFinds vm) x next c.seek-2.new.slots) search is))
    c.seek-2.ensures.answer
