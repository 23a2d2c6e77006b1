use Rattle.std.proofs.Common.{[], ◌∷◌, ◌++◌, map, take, ap, sym, subst, ◌∙◌}
use Rattle.std.proofs.lemmas.List.{map-append}
use Rattle.std.proofs.lemmas.Result.{err_from_is_err_and}
use Rattle.rx_grammar.specs.Postorder.{tree_of}
use Rattle.rx_engine.specs.Engines.{Spell, want_of_memory}
use Rattle.rx_engine.proofs.BuildLaws.{one_more_spelled, refused_first}
use Rattle.rx_engine.proofs.GroupLaws.{taken_all, taken_there}
use Rattle.rx_engine.proofs.builder.spelled.Goals as goal

pub loop-number-preserved : goal.loop-number-preserved
loop-number-preserved c =
    let texts = map (λ text. text.now) c.args.patterns.now in
    let settings = c.args.settings.now in
    let k = c.loop-number.number in
    let text = c.text_at.result.now in
    let pushed = ap (map tree_of) c.in-Ok.ensures.items ∙ map-append tree_of c.loop-number.hirs.items _ in
    subst (λ xs. Spell xs settings (map tree_of c.push.new.self.items)) (sym (taken_there texts k text c.text_at.ensures))
    (subst (λ ys. Spell (take k texts ++ text ∷ []) settings ys) (sym pushed)
    (one_more_spelled (take k texts) settings (map tree_of c.loop-number.hirs.items) text _ c.loop-number.invariant c.in_ok-hir.ensures.spells))

pub returns-in_err-hirs-clause-refused : goal.returns-in_err-hirs-clause-refused
returns-in_err-hirs-clause-refused c =
    let p = err_from_is_err_and c.from_residual.result c.from_residual.ensures.1 in
    rw (p.1, p.2) (λ limits. want_of_memory)

pub returns-in_err-hir-clause-refused : goal.returns-in_err-hir-clause-refused
returns-in_err-hir-clause-refused c =
    let p = err_from_is_err_and c.from_residual-in_err-hir.result c.from_residual-in_err-hir.ensures.1 in
    let texts = map (λ text. text.now) c.args.patterns.now in
    rw (p.1, p.2) (λ limits. refused_first c.loop-number.number c.text_at.result.now texts (map tree_of c.loop-number.hirs.items) (record { settings = limits; syntax = c.args.settings.now })
    c.in_err-hir.field-0.0 c.text_at.ensures c.loop-number.invariant c.in_err-hir.ensures.refused)

pub returns-in_default-clause-refused : goal.returns-in_default-clause-refused
returns-in_default-clause-refused c = λ limits. want_of_memory

pub returns-clause-spell : goal.returns-clause-spell
returns-clause-spell c =
    subst (λ xs. Spell xs c.args.settings.now (map tree_of c.loop-number.hirs.items)) (taken_all c.args.patterns.now (λ text. text.now) c.loop-number.number c.loop-number-test.false) c.loop-number.invariant
