use Rattle.std.proofs.Common.{[], ◌∷◌, ◌++◌, map, ap, sym, ◌∙◌}
use Rattle.std.proofs.lemmas.List.{map-append}
use Rattle.rx_grammar.specs.Postorder.{tree_of}
use Rattle.rx_engine.proofs.GroupLaws.{taken_more, taken_all}
use Rattle.rx_engine.proofs.builder.borrowed.Goals as goal

pub loop-hir-preserved : goal.loop-hir-preserved
loop-hir-preserved c =
    let hirs = c.args.hirs.now in
    let k = c.loop-hir.hir-index in
    ap (map (λ hir. tree_of hir.now)) c.in_ok-push.ensures.items
    ∙ map-append (λ hir. tree_of hir.now) c.loop-hir.borrowed.items _
    ∙ ap (λ xs. xs ++ tree_of c.hir-item.result ∷ []) c.loop-hir.invariant
    ∙ sym (taken_more hirs tree_of k c.hir-item.result c.loop-hir-test.true c.hir-item.is)

pub returns : goal.returns
returns c = c.loop-hir.invariant ∙ taken_all c.args.hirs.now tree_of c.loop-hir.hir-index c.loop-hir-test.false
