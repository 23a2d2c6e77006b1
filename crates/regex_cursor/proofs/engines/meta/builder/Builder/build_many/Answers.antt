use Rattle.std.proofs.Common.{◌≡◌, map, ap, subst, ◌∙◌}
use Rattle.std.proofs.lemmas.Result.{err_from_is_err_and}
use Rattle.rx_grammar.specs.Postorder.{tree_of}
use Rattle.rx_engine.specs.Engines.{AreRefused, Spell, by_weight_of_all, want_of_memory}
use Rattle.regex_cursor.proofs.BuildLaws.{if_err}
use Rattle.regex_cursor.specs.Configs.{engine_settings}
use Rattle.regex_cursor.proofs.engines.meta.builder.Builder.build_many.Goals as goal

pub returns-in_err-borrowed-clause-refused : goal.returns-in_err-borrowed-clause-refused
returns-in_err-borrowed-clause-refused c =
    let p = err_from_is_err_and c.from_residual-in_err-borrowed.result c.from_residual-in_err-borrowed.ensures.1 in
    rw (p.1, p.2) want_of_memory

pub returns-clause-refused : goal.returns-clause-refused
returns-clause-refused c =
    let texts = map (λ text. text.now) c.args.patterns.now in
    let trees = map tree_of c.in_ok-hirs.hirs.items in
    let are : map (λ hir. tree_of hir.now) c.deref-2.result.now ≡ trees = ap (map (λ hir. tree_of hir.now)) c.deref-2.ensures.value ∙ c.in_ok-borrowed.ensures ∙ ap (map tree_of) c.deref.ensures.value in
    if_err c.build_many_from_hir.result (λ error is. by_weight_of_all trees (subst (λ w. Spell texts w.syntax trees) c.self.view_is c.in_ok-hirs.ensures.spell) (subst (λ xs. AreRefused xs (engine_settings c.args.self.now.settings) error) are is)) c.build_many_from_hir.ensures.refused
