use Rattle.std.proofs.Common.{◌≡◌, [], ◌∷◌, ◌++◌, All, map, take, ap, sym, subst, ◌∙◌}
use Rattle.std.proofs.lemmas.List.{map-append}
use Rattle.std.proofs.lemmas.List.Elements.{All-push}
use Rattle.rx_util.specs.Groups.{names_of, named_groups}
use Rattle.rx_grammar.specs.Subtrees.{IsWellFormed}
use Rattle.rx_grammar.specs.Postorder.{tree_of}
use Rattle.rx_engine.specs.Engines.{AreGroupNamesOf}
use Rattle.rx_engine.proofs.GroupLaws.{one_more_groups, taken_all, taken_more}
use Rattle.rx_engine.proofs.groups.all_names.Goals as goal

pub loop-hir-preserved : goal.loop-hir-preserved
loop-hir-preserved c =
    let hirs = c.args.hirs.now in
    let trees = map (λ hir. tree_of hir.now) hirs in
    let k = c.loop-hir.hir-index in
    let tree = tree_of c.hir-item.result.now in
    let names = c.in_ok-group_names.field-0 in
    let more = taken_more hirs (λ hir. tree_of hir.now) k c.hir-item.result c.loop-hir-test.true c.hir-item.is in
    let pushed : named_groups c.push.new.self.items ≡ named_groups c.loop-hir.patterns.items ++ names_of names.items ∷ [] =
    ap (λ xs. named_groups xs) c.in_ok-push.ensures.items ∙ map-append (λ pattern. names_of pattern.items) c.loop-hir.patterns.items (names ∷ []) in
    record {
      groups = subst (λ xs. AreGroupNamesOf xs (named_groups c.push.new.self.items)) (sym more)
          (subst (λ g. AreGroupNamesOf (take k trees ++ tree ∷ []) g) (sym pushed)
          (one_more_groups (take k trees) (named_groups c.loop-hir.patterns.items) tree (names_of names.items) c.loop-hir.invariant.groups c.in_ok-group_names.ensures.names));
      well_formed = subst (λ xs. All IsWellFormed xs) (sym more) (All-push IsWellFormed (take k trees) tree c.loop-hir.invariant.well_formed c.in_ok-group_names.ensures.well_formed);
    }

pub returns-clause-groups : goal.returns-clause-groups
returns-clause-groups c =
    let hirs = c.args.hirs.now in
    let all = taken_all hirs (λ hir. tree_of hir.now) c.loop-hir.hir-index c.loop-hir-test.false in
    subst (λ xs. AreGroupNamesOf xs (named_groups c.loop-hir.patterns.items)) all c.loop-hir.invariant.groups
