use Rattle.std.proofs.Common.{◌<◌, true, length, sym, ap, subst, ◌∙◌, arith}
use Rattle.std.proofs.lemmas.Result.{err_from_is_err_and}
use Rattle.rx_walks.specs.Backward.{end_in_content}
use Rattle.rx_walks.specs.Finds.{IsInside}
use Rattle.rx_walks.specs.ProgramFinds.{lowest}
use Rattle.rx_steps.specs.Searching.{search_of}
use Rattle.rx_steps.proofs.FollowLaws.{if_ok}
use Rattle.rx_steps.proofs.OverLaws.{same_search}
use Rattle.rx_dfa.specs.declared.states.AutomatonState.{AutomatonState}
use Rattle.rx_dfa.specs.Automata.{directed}
use Rattle.rx_dfa.specs.Back.{HasEndedBack, StandsBack, StopsBack, best_from}
use Rattle.rx_dfa.specs.Caches.{CacheView}
use Rattle.rx_dfa.specs.Passing.{IsDeadState}
use Rattle.rx_dfa.proofs.BackLaws.{err_each, over_ends}
use Rattle.rx_dfa.proofs.TableLaws.{the_same}
use Rattle.rx_dfa.proofs.back.follow_back.Goals as goal

pub is_over-requires : goal.is_over-requires
is_over-requires g c = subst (λ (v : CacheView). c.loop-met.number < length v.states) (sym c.known.ensures) c.loop-met.invariant.number

pub returns-then-is_over-clause-ended : goal.returns-then-is_over-clause-ended
returns-then-is_over-clause-ended g c = λ b q at.
    let p = (directed c.args.automaton.now).bytes in
    let s = search_of b c.args.input.now in
    let now = c.loop-met.invariant.stands b q at in
    let over = subst (λ (v : CacheView). IsDeadState v.states c.loop-met.number) c.known.ensures (c.is_over.ensures c.if-is_over.true) in
    let same = the_same now.stands over.stands in
    let whole = over_ends p s q c.loop-met.input.position now.state c.loop-met.met (c.loop-met.invariant.inside b)
    (ap (λ (x : AutomatonState). x.threads.threads) same ∙ over.threads) (ap (λ (x : AutomatonState). x.starting) same ∙ over.starting) now.reached in
    subst (λ o. HasEndedBack p s q o) (sym (c.placed.ensures ∙ ap (λ e. best_from e c.loop-met.met) c.end-end.ensures)) whole

pub finish_back-requires-clause-inside : goal.finish_back-requires-clause-inside
finish_back-requires-clause-inside g c = λ b.
    let here = c.loop-met.input in
    let same = same_search b here c.args.input.now c.loop-met.invariant.same.content c.loop-met.invariant.asked in
    subst (λ x. IsInside x here.position) (sym same) (c.loop-met.invariant.inside b)

pub finish_back-requires-clause-first : goal.finish_back-requires-clause-first
finish_back-requires-clause-first g c = λ b.
    let here = c.loop-met.input in
    let same = same_search b here c.args.input.now c.loop-met.invariant.same.content c.loop-met.invariant.asked in
    let inside : IsInside (search_of b here) here.position = subst (λ x. IsInside x here.position) (sym same) (c.loop-met.invariant.inside b) in
    omega (arith, c.if-position-first_place.true, c.first_place.ensures b, c.position.ensures.position, inside.0, inside.2)

pub returns-then-position-first_place-clause-ended : goal.returns-then-position-first_place-clause-ended
returns-then-position-first_place-clause-ended g c =
    let a = c.args.automaton.now in
    let p = (directed a).bytes in
    let here = c.loop-met.input in
    let old = c.args.input.now in
    let states = (g.T.Table.shown c.loop-met.table).states in
    if_ok c.finish_back.result (λ best ended b q at.
    let same = same_search b here old c.loop-met.invariant.same.content c.loop-met.invariant.asked in
    let last : IsInside (search_of b here) (end_in_content (search_of b here)) = subst (λ x. IsInside x (end_in_content x)) (sym same) (subst (λ k. IsInside (search_of b old) k) (c.requires.end b) (c.requires.inside b)) in
    subst (λ x. HasEndedBack p x q best) same (ended b q last (subst (λ x. StandsBack a x q here.position states c.loop-met.number c.loop-met.met) (sym same) (c.loop-met.invariant.stands b q at)))) c.finish_back.ensures.ended

pub returns-then-position-first_place-clause-refused : goal.returns-then-position-first_place-clause-refused
returns-then-position-first_place-clause-refused g c =
    let asked = c.args.automaton.now.alphabet.now.asked in
    let here = c.loop-met.input in
    err_each c.finish_back.result (λ error why b. subst (λ x. StopsBack g.T.Table.is_whole asked x error) (same_search b here c.args.input.now c.loop-met.invariant.same.content c.loop-met.invariant.asked) (why b)) c.finish_back.ensures.refused

pub pass_back-requires-clause-inside : goal.pass_back-requires-clause-inside
pass_back-requires-clause-inside g c = λ b.
    let here = c.loop-met.input in
    let same = same_search b here c.args.input.now c.loop-met.invariant.same.content c.loop-met.invariant.asked in
    subst (λ x. IsInside x here.position) (sym same) (c.loop-met.invariant.inside b)

pub returns-in_err-number-clause-refused : goal.returns-in_err-number-clause-refused
returns-in_err-number-clause-refused g c =
    let asked = c.args.automaton.now.alphabet.now.asked in
    let here = c.loop-met.input in
    let p = err_from_is_err_and c.from_residual.result c.from_residual.ensures.1 in
    rw (p.1, p.2) (λ b. subst (λ x. StopsBack g.T.Table.is_whole asked x c.in_err-number.field-0.0) (same_search b here c.args.input.now c.loop-met.invariant.same.content c.loop-met.invariant.asked) (c.in_err-number.ensures.refused b))

pub loop-met-smaller : goal.loop-met-smaller
loop-met-smaller g c =
    let before : lowest (search_of true c.loop-met.input) < c.loop-met.input.position = omega (arith, c.if-position-first_place.false, c.first_place.ensures true, c.position.ensures.position) in
    omega (arith, c.in_ok-number.ensures.on true before)

pub loop-met-preserved : goal.loop-met-preserved
loop-met-preserved g c =
    let a = c.args.automaton.now in
    let here = c.loop-met.input in
    let there = c.pass_back.new.input in
    let old = c.args.input.now in
    let was = c.loop-met.invariant in
    record {
      table = c.pass_back.ensures.table;
      number = c.in_ok-number.ensures.number;
      inside = λ b. subst (λ x. IsInside x there.position) (same_search b here old was.same.content was.asked) (c.in_ok-number.ensures.inside b);
      stands = λ b q at.
          let same = same_search b here old was.same.content was.asked in
          let last : IsInside (search_of b here) (end_in_content (search_of b here)) = subst (λ x. IsInside x (end_in_content x)) (sym same) (subst (λ k. IsInside (search_of b old) k) (c.requires.end b) (c.requires.inside b)) in
          subst (λ x. StandsBack a x q there.position (g.T.Table.shown c.pass_back.new.table).states c.in_ok-number.number c.pass_back.new.met) same
          (c.in_ok-number.ensures.stands b q last (subst (λ x. StandsBack a x q here.position (g.T.Table.shown c.loop-met.table).states c.loop-met.number c.loop-met.met) (sym same) (was.stands b q at)));
      same = record {
        content = c.pass_back.ensures.same.same.content ∙ was.same.content;
        is_sized = c.pass_back.ensures.same.same.is_sized ∙ was.same.is_sized;
      };
      asked = c.pass_back.ensures.same.asked_is ∙ was.asked;
    }
