use Rattle.std.proofs.Common.{refl, subst}
use Rattle.std.specs.Prelude.{IfSome}
use Rattle.std.specs.Str.{IsCharBoundary}
use Rattle.rope_search_reports.specs.Explaining.{Refusal, IsRefusedAs, default_settings}
use Rattle.rope_search_c.proofs.PatternErrorLemmas.{IsToldAlike, nothing-told, why-told}
use Rattle.rope_search_c.proofs.pattern_errors.rope_search_pattern_error.Goals as goal

pub returns-in-Ok-None-clause-told : goal.returns-in-Ok-None-clause-told
returns-in-Ok-None-clause-told c =
    nothing-told c.args.pattern.now 0 c.args.error.now (record { reason = 0; place = 0 })
    (subst (IsToldAlike c.args.pattern.now) c.in-Ok-None.field-0-is c.in-Ok-None.ensures.refused) refl refl

pub returns-in-Ok-Some-clause-told : goal.returns-in-Ok-Some-clause-told
returns-in-Ok-Some-clause-told c =
    let bytes = c.args.pattern.now in
    let told = c.in-Ok-Some.ensures in
    let is = c.in-Ok-Some.field-0-is in
    let refusal = c.in-Ok-Some.refusal in
    why-told bytes 0 c.reason_number.result c.args.error.now (record { reason = c.reason_number.result; place = refusal.place }) refusal
    (subst (IsToldAlike bytes) is told.refused)
    (subst (λ o. IfSome o (λ (r : Refusal). IsRefusedAs r.reason bytes default_settings)) is told.reason)
    (subst (λ o. IfSome o (λ (r : Refusal). IsCharBoundary bytes r.place)) is told.place)
    refl c.reason_number.ensures refl
