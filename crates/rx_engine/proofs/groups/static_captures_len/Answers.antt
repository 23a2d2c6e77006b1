use Rattle.std.proofs.Common.{map, take, sym, subst, ◌∙◌, arith}
use Rattle.rx_grammar.specs.Postorder.{tree_of}
use Rattle.rx_engine.proofs.GroupLaws.{taken_all, taken_more}
use Rattle.rx_engine.proofs.StaticLaws.{Each, all_have, each-push, one_differs, told_other, told_same}
use Rattle.rx_engine.proofs.groups.static_captures_len.Goals as goal

pub returns-then-ne : goal.returns-then-ne
returns-then-ne c =
    let first = c.in_ok-first.field-0.now in
    let begins = c.in_ok-first.ensures.item in
    let has = sym c.static_captures_len.ensures ∙ c.in_ok-len.was in
    sym (one_differs (λ hir. tree_of hir.now) c.args.hirs.now first c.hir-item.result c.in_ok-len.len c.loop-hir.hir-index (omega (arith, begins.0)) begins.1 has c.loop-hir-test.true c.hir-item.is
    (λ same. told_other c.static_captures_len-in-loop-hir.result c.in_ok-len.len c.if-ne.ensures (c.static_captures_len-in-loop-hir.ensures ∙ same)))

pub loop-hir-preserved : goal.loop-hir-preserved
loop-hir-preserved c =
    let hirs = c.args.hirs.now in
    let trees = map (λ hir. tree_of hir.now) hirs in
    let k = c.loop-hir.hir-index in
    let tree = tree_of c.hir-item.result.now in
    let more = taken_more hirs (λ hir. tree_of hir.now) k c.hir-item.result c.loop-hir-test.true c.hir-item.is in
    subst (λ xs. Each c.in_ok-len.len xs) (sym more) (each-push c.in_ok-len.len (take k trees) tree c.loop-hir.invariant
    (sym c.static_captures_len-in-loop-hir.ensures ∙ told_same c.static_captures_len-in-loop-hir.result c.in_ok-len.len c.if-ne.ensures))

pub returns : goal.returns
returns c =
    let hirs = c.args.hirs.now in
    let begins = c.in_ok-first.ensures.item in
    let all = subst (λ xs. Each c.in_ok-len.len xs) (taken_all hirs (λ hir. tree_of hir.now) c.loop-hir.hir-index c.loop-hir-test.false) c.loop-hir.invariant in
    sym (all_have (λ hir. tree_of hir.now) hirs c.in_ok-first.field-0.now c.in_ok-len.len (omega (arith, begins.0)) all)
