use Rattle.std.proofs.Common.{◌≡◌, ◌*◌, ◌≤◌, Some, length, refl, subst, arith}
use Rattle.rx_engine.specs.Engines.{Engine, IsEngine}
use Rattle.rx_steps.specs.Searching as steps
use Rattle.rx_steps.specs.Searching.{search_of}
use Rattle.rx_chunk.specs.Engines.{EngineFinds, IsAnswer}
use Rattle.rx_chunk.proofs.FoundLaws.{notes_places}
use Rattle.rx_chunk.proofs.NextLaws.{next_some}
use Rattle.regex_cursor.proofs.StrategyLaws.{by_engine}
use Rattle.regex_cursor.proofs.engines.meta.leftmost.next_anchored.Goals as goal

pub returns-then-differ-clause-answer : goal.returns-then-differ-clause-answer
returns-then-differ-clause-answer g c =
    let re = c.args.strategy.now.vm in
    let i = c.args.input.now in
    let s = search_of re.utf8_empty i in
    let slots = c.search_alone.new.slots in
    let k = c.in-Some.pattern in
    let vm = c.vm-vm.ensures.vm in
    let room : 2 * length re.groups ≤ length slots = omega (arith, c.requires.slots, c.search_alone.ensures.len) in
    let engine : IsEngine re = subst IsEngine vm c.group_info-groups.ensures.engine in
    let answer : steps.IsAnswer re.program s (Some k) slots = subst (λ (e : Engine). steps.IsAnswer e.program (search_of e.utf8_empty i) (Some k) slots) vm c.in-Some.ensures.answer in
    let found : IsAnswer (EngineFinds re) s (Some k) slots =
    by_engine re c.requires.first (λ finding. IsAnswer finding s (Some k) slots)
    (record { found = answer.found; finds = answer.finds; pattern_is = answer.pattern_is; slots_are = answer.slots_are }) in
    next_some re (notes_places re engine) s c.args.last_match_end (Some k) k slots refl room found (λ same last. c.differ.ensures c.if-differ.true same)
