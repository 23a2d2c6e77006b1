use Rattle.std.proofs.Common.{◌+◌, [], ◌∷◌, ◌++◌, ap, ◌∙◌, arith}
use Rattle.rope_search_reports.proofs.WeaveLemmas.{drop-none}
use Rattle.rope_search_reports.proofs.TurnLemmas.{turns-start, turns-at, turns-behind, turns-more, turns-all}
use Rattle.rope_search_reports.proofs.changes.turned.Goals as goal

pub loop-change-init : goal.loop-change-init
loop-change-init c = (turns-start _ _ _ _ c.in_ok-back.ensures.items c.requires.2, c.in_ok-back.ensures.len, c.in_ok-back.ensures.exact)

pub turned_from-requires-clause-behind : goal.turned_from-requires-clause-behind
turned_from-requires-clause-behind c =
    (turns-behind _ _ _ _ _ _ (turns-at _ _ c.args.changes.now c.loop-change.change-index _ _ c.loop-change-test.true c.loop-change.invariant.0)).0

pub turned_from-requires-clause-ordered : goal.turned_from-requires-clause-ordered
turned_from-requires-clause-ordered c =
    let low = (turns-behind _ _ _ _ _ _ (turns-at _ _ c.args.changes.now c.loop-change.change-index _ _ c.loop-change-test.true c.loop-change.invariant.0)).1 in
    omega (arith, low)

pub push_reserved-requires : goal.push_reserved-requires
push_reserved-requires c = omega (arith, c.loop-change-test.true, c.loop-change.invariant.1, c.loop-change.invariant.2)

pub loop-change-preserved : goal.loop-change-preserved
loop-change-preserved c =
    let here = turns-at _ _ c.args.changes.now c.loop-change.change-index _ _ c.loop-change-test.true c.loop-change.invariant.0 in
    let more = c.push_reserved.ensures.items ∙ ap (λ d. c.loop-change.back.items ++ d ∷ []) c.turned_from.ensures in (
      turns-more _ _ _ _ _ _ _ here more,
      c.push_reserved.ensures.len ∙ ap (λ n. n + 1) c.loop-change.invariant.1,
      c.push_reserved.ensures.capacity ∙ c.loop-change.invariant.2,
    )

pub returns-clause-changes : goal.returns-clause-changes
returns-clause-changes c = turns-all _ _ _ _ _ (drop-none c.loop-change.change-index c.args.changes.now c.loop-change-test.false) c.loop-change.invariant.0
