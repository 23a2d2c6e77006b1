use Rattle.std.proofs.Common.{◌≡◌, ◌-◌, ◌<◌, Some, length, sym, ap, subst, ◌∙◌, arith}
use Rattle.rx_walks.specs.Finds.{IsInside}
use Rattle.rx_walks.specs.ProgramFinds.{start_node}
use Rattle.rx_program.specs.Programs.{character_program}
use Rattle.rx_steps.specs.Searching.{anchoring_of}
use Rattle.rx_steps.proofs.FollowLaws.{if_ok}
use Rattle.rx_steps.proofs.OverLaws.{same_search}
use Rattle.rx_dfa.specs.Automata.{directed}
use Rattle.rx_dfa.specs.declared.states.AutomatonState.{AutomatonState}
use Rattle.rx_dfa.specs.Caches.{CacheView}
use Rattle.rx_dfa.specs.Passing.{IsDeadState, SearchStandsAt, search_by}
use Rattle.rx_dfa.specs.Searching.{IsHalfAnswer}
use Rattle.rx_dfa.proofs.TableLaws.{the_same}
use Rattle.rx_dfa.proofs.LoopLaws.{over_answers}
use Rattle.rx_dfa.proofs.LowerLaws.{keeping_law}
use Rattle.rx_dfa.proofs.search.follow.Goals as goal

pub is_over-requires : goal.is_over-requires
is_over-requires g c = subst (λ (v : CacheView). c.loop-met.number < length v.states) (sym c.known.ensures) c.loop-met.invariant.number

pub returns-then-is_over-clause-answer : goal.returns-then-is_over-clause-answer
returns-then-is_over-clause-answer g c = λ q starts at.
    let a = c.args.automaton.now in
    let s = search_by a c.args.input.now in
    let now = c.loop-met.invariant.stands q at in
    let over = subst (λ (v : CacheView). IsDeadState v.states c.loop-met.number) c.known.ensures (c.is_over.ensures c.if-is_over.true) in
    let same = the_same now.stands over.stands in
    over_answers (directed a).bytes s q c.loop-met.input.position now.state c.loop-met.met c.requires.forward.reads keeping_law starts
    (ap (λ (x : AutomatonState). x.threads.threads) same ∙ over.threads) (ap (λ (x : AutomatonState). x.starting) same ∙ over.starting) now.reached

pub finish-requires-clause-last : goal.finish-requires-clause-last
finish-requires-clause-last g c =
    let b = c.args.automaton.now.alphabet.now.utf8_empty in
    let here = c.loop-met.input in
    let same = same_search b here c.args.input.now c.loop-met.invariant.same.content c.loop-met.invariant.asked in
    c.is_at_last.ensures.last c.if-is_at_last.true b (subst (λ x. IsInside x here.position) (sym same) c.loop-met.invariant.inside)

pub returns-then-is_at_last-clause-answer : goal.returns-then-is_at_last-clause-answer
returns-then-is_at_last-clause-answer g c =
    let a = c.args.automaton.now in
    let p = (directed a).bytes in
    let here = c.loop-met.input in
    let states = (g.T.Table.shown c.loop-met.table).states in
    let same = same_search a.alphabet.now.utf8_empty here c.args.input.now c.loop-met.invariant.same.content c.loop-met.invariant.asked in
    if_ok c.finish.result (λ found told q starts at. subst (λ x. IsHalfAnswer p x found) same
    (told q (subst (λ z. start_node (character_program p) (anchoring_of z) ≡ Some q) (sym (ap (λ x. x.anchored) c.loop-met.invariant.asked)) starts)
    (subst (λ x. SearchStandsAt a x q here.position states c.loop-met.number c.loop-met.met) (sym same) (c.loop-met.invariant.stands q at)))) c.finish.ensures.answer

pub loop-met-smaller : goal.loop-met-smaller
loop-met-smaller g c =
    let a = c.args.automaton.now in
    let b = a.alphabet.now.utf8_empty in
    let content = c.args.input.now.cursor.content in
    let here = c.loop-met.input in
    let there = c.pass_piece.new.input in
    let same = same_search b here c.args.input.now c.loop-met.invariant.same.content c.loop-met.invariant.asked in
    let inside : IsInside (search_by a here) here.position = subst (λ x. IsInside x here.position) (sym same) c.loop-met.invariant.inside in
    let on = c.in_ok-number.ensures.on (c.is_at_last.ensures.before c.if-is_at_last.false b inside) in
    let inside' : IsInside (search_by a c.args.input.now) there.position = subst (λ x. IsInside x there.position) same c.in_ok-number.ensures.inside in
    let smaller : length content - there.position < length content - here.position = omega (arith, on, inside'.4) in
    smaller
