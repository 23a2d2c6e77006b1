use Rattle.std.proofs.Common.{◌≡◌, ◌≢◌, ◌<◌, ◌≤◌, ◌⊎◌, inl, inr, true, IsUtf8, Err, length, refl, sym, ap, ◌∙◌, subst, arith}
use Rattle.std.proofs.lemmas.Bool.{cases_lt}
use Rattle.std.specs.Prelude.{None}
use Rattle.std.specs.Str.{chars}
use Rattle.std.proofs.lemmas.Result.{err_from_is_err_and}
use Rattle.rope_search_io.specs.declared.faults.Fault.TheVariants.{Size}
use Rattle.rope_search_reports.specs.Ticks.{Ticks}
use Rattle.rope_search.specs.Session.{limit_in}
use Rattle.rope_search.specs.Replacing.{IsReplacement, GetsTooLongWith, RowsOfReplacement}
use Rattle.rope_search.proofs.SessionLemmas.{Chosen}
use Rattle.rope_search.proofs.ReplaceLemmas.{Step-replaced, Step-replace_err, Step-replace_utf8, Step-replace_long, rows_replaced}
use Rattle.rope_search_reports.specs.Text.{IsText}
use Rattle.rope_search.proofs.TextLemmas.{Encodes-chars}
use Rattle.rope_search.proofs.TextLaws.{holds_replaced}
use Rattle.rope_search.proofs.HoldLemmas.{AllKept, kept_set, kept_limit, kept_holds}
use Rattle.rope_search.proofs.ChangedLemmas.{tells-replace}
use Rattle.rope_search.specs.Changed.{SpansMatches}
use Rattle.rope_search.specs.TextsKept.{KeepsOf}
use Rattle.rope_search.proofs.KeptLemmas.{keeps}
use Rattle.rope_search.specs.Histories.{KeepsReplacement}
use Rattle.rope_search.specs.Order.{ReplaceAll}
use Rattle.rope_search.proofs.session.Session.replace.Goals as goal

pub returns-in_err-number-in-Ok-clause-step : goal.returns-in_err-number-in-Ok-clause-step
returns-in_err-number-in-Ok-clause-step c = λ bytes stands.
    let inside = c.self.inside in
    let old = c.index_mut.result.now in
    let limit = limit_in inside.buffers.items inside.chosen in
    let given : bytes ≡ c.in-Kept.bytes.now = rw c.in-Kept.is at stands in
    let same : c.in-Ok.template.now ≡ bytes = c.in-Ok.ensures.cases.0 ∙ sym given in
    let utf8 : IsUtf8 bytes = subst IsUtf8 (sym given) c.in-Ok.ensures.cases.1 in
    let chosen : Chosen inside.buffers.items inside.chosen limit old c.args.self.now =
    record { inside = omega (arith, inside.buffers.ok.0); is = c.index_mut.ensures.value; all = c.self.invariant.1.0; seen = c.self.view_is } in
    let p = err_from_is_err_and c.from_residual.result c.from_residual.ensures.1 in
    let told = c.in_err-number-in-Ok.ensures in
    let fault = c.in_err-number-in-Ok.field-0.0 in
    let some : fault ≡ Size → old.state.pattern ≢ None = λ e none. let other = told.nothing.1 none in cc in
    rw (p.1, p.2) (Step-replace_err inside.buffers.items inside.chosen limit old c.replace.new.self bytes c.args.self.now fault chosen told.err utf8 told.fault
    (λ e. told.nothing.0 (ap Err e)) some
    (λ e. subst (λ t. (old.limit < length t) ⊎ GetsTooLongWith old.limit old.state (chars t)) same (told.size (ap Err e))))

pub returns-in_err-number-in-Ok-clause-rows : goal.returns-in_err-number-in-Ok-clause-rows
returns-in_err-number-in-Ok-clause-rows c = λ bytes cost stands costs.
    let inside = c.self.inside in
    let old = c.index_mut.result.now in
    let limit = limit_in inside.buffers.items inside.chosen in
    let told = c.replace.ensures in
    let given : bytes ≡ c.in-Kept.bytes.now = rw c.in-Kept.is at stands in
    let same : c.in-Ok.template.now ≡ bytes = c.in-Ok.ensures.cases.0 ∙ sym given in
    let utf8 : IsUtf8 bytes = subst IsUtf8 (sym given) c.in-Ok.ensures.cases.1 in
    rows_replaced inside.buffers.items inside.chosen limit old bytes c.args.self.now c.replace.new.tick.count c.args.tick.now.count
    (record { inside = omega (arith, inside.buffers.ok.0); is = c.index_mut.ensures.value; all = c.self.invariant.1.0; seen = c.self.view_is })
    utf8
    (λ none. omega (arith, ap (λ (t : Ticks). t.count) (told.nothing_unsearched (told.nothing.1 none))))
    (λ long. omega (arith, ap (λ (t : Ticks). t.count) (told.size_unsearched (omega (arith, long, ap length same)))))
    (λ over. omega (arith, told.unmade (subst (λ t. GetsTooLongWith old.limit old.state (chars t)) (sym same) over)))
    (λ n rows. told.rows n (subst (λ t. RowsOfReplacement old.state (chars t) n) (sym same) rows))
    cost costs

pub returns-in_ok-number-in-Ok-clause-step : goal.returns-in_ok-number-in-Ok-clause-step
returns-in_ok-number-in-Ok-clause-step c = λ bytes stands.
    let inside = c.self.inside in
    let old = c.index_mut.result.now in
    let limit = limit_in inside.buffers.items inside.chosen in
    let given : bytes ≡ c.in-Kept.bytes.now = rw c.in-Kept.is at stands in
    let same : c.in-Ok.template.now ≡ bytes = c.in-Ok.ensures.cases.0 ∙ sym given in
    let utf8 : IsUtf8 bytes = subst IsUtf8 (sym given) c.in-Ok.ensures.cases.1 in
    let chosen : Chosen inside.buffers.items inside.chosen limit old c.args.self.now =
    record { inside = omega (arith, inside.buffers.ok.0); is = c.index_mut.ensures.value; all = c.self.invariant.1.0; seen = c.self.view_is } in
    let told = c.in_ok-number-in-Ok.ensures in
    let some : old.state.pattern ≢ None = λ none. let other = told.nothing.1 none in cc in
    let short : length bytes ≤ old.limit = elim (cases_lt old.limit (length bytes)) [
      | inl long ↦ absurd (let size = told.too_long some (omega (arith, long, ap length same)) in cc)
      | inr short ↦ short
    ] in
    let fits : GetsTooLongWith old.limit old.state (chars bytes) → ⊥ = λ over. told.fits (subst (λ t. GetsTooLongWith old.limit old.state (chars t)) (sym same) over) in
    let is : IsReplacement old.state (chars bytes) c.in_ok-number-in-Ok.number c.replace.new.self.state =
    subst (λ t. IsReplacement old.state (chars t) c.in_ok-number-in-Ok.number c.replace.new.self.state) same told.ok in
    Step-replaced inside.buffers.items inside.chosen limit old c.replace.new.self bytes c.in_ok-number-in-Ok.number c.args.self.now chosen some utf8 short fits is

pub returns-in_ok-number-in-Ok-clause-rows : goal.returns-in_ok-number-in-Ok-clause-rows
returns-in_ok-number-in-Ok-clause-rows c = λ bytes cost stands costs.
    let inside = c.self.inside in
    let old = c.index_mut.result.now in
    let limit = limit_in inside.buffers.items inside.chosen in
    let told = c.replace.ensures in
    let given : bytes ≡ c.in-Kept.bytes.now = rw c.in-Kept.is at stands in
    let same : c.in-Ok.template.now ≡ bytes = c.in-Ok.ensures.cases.0 ∙ sym given in
    let utf8 : IsUtf8 bytes = subst IsUtf8 (sym given) c.in-Ok.ensures.cases.1 in
    rows_replaced inside.buffers.items inside.chosen limit old bytes c.args.self.now c.replace.new.tick.count c.args.tick.now.count
    (record { inside = omega (arith, inside.buffers.ok.0); is = c.index_mut.ensures.value; all = c.self.invariant.1.0; seen = c.self.view_is })
    utf8
    (λ none. omega (arith, ap (λ (t : Ticks). t.count) (told.nothing_unsearched (told.nothing.1 none))))
    (λ long. omega (arith, ap (λ (t : Ticks). t.count) (told.size_unsearched (omega (arith, long, ap length same)))))
    (λ over. omega (arith, told.unmade (subst (λ t. GetsTooLongWith old.limit old.state (chars t)) (sym same) over)))
    (λ n rows. told.rows n (subst (λ t. RowsOfReplacement old.state (chars t) n) (sym same) rows))
    cost costs

pub returns-in-Err-clause-step : goal.returns-in-Err-clause-step
returns-in-Err-clause-step c = λ bytes stands.
    let given : bytes ≡ c.in-Kept.bytes.now = rw c.in-Kept.is at stands in
    let broken : ¬ (IsUtf8 bytes) = subst (λ bs. ¬ (IsUtf8 bs)) (sym given) c.in-Err.ensures.cases.0 in
    Step-replace_utf8 c.buffer.result.now bytes c.args.self.now c.nothing_or.result c.buffer.ensures.state c.nothing_or.ensures broken

pub returns-in-Long-true-clause-step : goal.returns-in-Long-true-clause-step
returns-in-Long-true-clause-step c = λ bytes stands.
    let long = rw c.in-Long-true.is at stands in
    let told : c.in-Long-true.utf8 ≡ true = cc in
    Step-replace_long c.buffer-in-Long-true.result.now bytes c.args.self.now c.nothing_or-in-Long-true.result
    c.buffer-in-Long-true.ensures.state c.nothing_or-in-Long-true.ensures (long.1.0 told) long.0

pub returns-in-Long-false-clause-step : goal.returns-in-Long-false-clause-step
returns-in-Long-false-clause-step c = λ bytes stands.
    let long = rw c.in-Long-false.is at stands in
    Step-replace_utf8 c.buffer-in-Long-false.result.now bytes c.args.self.now c.nothing_or-in-Long-false.result
    c.buffer-in-Long-false.ensures.state c.nothing_or-in-Long-false.ensures (λ text. absurd (let e = long.1.1 text in cc))

pub invariant_of-self-in-Ok : goal.invariant_of-self-in-Ok
invariant_of-self-in-Ok c =
    let items = c.self.inside.buffers.items in
    let k = c.self.inside.chosen in
    let new = c.replace.new.self in
    let inside : k < length items = omega (arith, c.self.inside.buffers.ok.0) in
    let kept : AllKept items (limit_in items k) = record { limits = c.self.invariant.1.0; texts = c.self.invariant.1.1 } in
    let told = c.in_ok-number-in-Ok.ensures in
    let held = kept_holds items k c.index_mut.result.now inside c.index_mut.ensures.value kept in
    let is = subst (λ t. IsText (chars t)) (sym c.in-Ok.ensures.cases.0) (Encodes-chars c.in-Kept.bytes.now c.in-Ok.ensures.cases.1).scalars in
    let holds = holds_replaced c.replaced_is_text.ensures c.index_mut.result.now.state new.state (chars c.in-Ok.template.now) c.in_ok-number-in-Ok.number held is told.ok in
    let all = kept_set items k new inside (told.limit ∙ kept_limit items k c.index_mut.result.now inside c.index_mut.ensures.value kept) holds kept in
    (c.self.invariant.0, (all.limits, all.texts))

pub returns-in_ok-number-in-Ok-clause-changed : goal.returns-in_ok-number-in-Ok-clause-changed
returns-in_ok-number-in-Ok-clause-changed c = λ bytes stands.
    let inside = c.self.inside in
    let old = c.index_mut.result.now in
    let limit = limit_in inside.buffers.items inside.chosen in
    let chosen : Chosen inside.buffers.items inside.chosen limit old c.args.self.now =
    record { inside = omega (arith, inside.buffers.ok.0); is = c.index_mut.ensures.value; all = c.self.invariant.1.0; seen = c.self.view_is } in
    let given : bytes ≡ c.in-Kept.bytes.now = rw c.in-Kept.is at stands in
    let same : c.in-Ok.template.now ≡ bytes = c.in-Ok.ensures.cases.0 ∙ sym given in
    let told = c.in_ok-number-in-Ok.ensures in
    tells-replace bytes inside.buffers.items inside.chosen limit old c.replace.new.self c.args.self.now chosen told.changed
    (subst (λ t. SpansMatches old.state (chars t) c.replace.new.self.state c.replace.new.self.changed) same told.added)

pub returns-in_ok-number-in-Ok-clause-texts : goal.returns-in_ok-number-in-Ok-clause-texts
returns-in_ok-number-in-Ok-clause-texts c = λ bytes stands.
    let inside = c.self.inside in
    let old = c.index_mut.result.now in
    let limit = limit_in inside.buffers.items inside.chosen in
    let chosen : Chosen inside.buffers.items inside.chosen limit old c.args.self.now =
    record { inside = omega (arith, inside.buffers.ok.0); is = c.index_mut.ensures.value; all = c.self.invariant.1.0; seen = c.self.view_is } in
    let given : bytes ≡ c.in-Kept.bytes.now = rw c.in-Kept.is at stands in
    let same : c.in-Ok.template.now ≡ bytes = c.in-Ok.ensures.cases.0 ∙ sym given in
    let told = c.in_ok-number-in-Ok.ensures in
    keeps (KeepsOf (ReplaceAll bytes)) inside.buffers.items inside.chosen limit old c.replace.new.self c.args.self.now _ chosen refl refl refl
    (subst (λ t. KeepsReplacement old (chars t) c.replace.new.self) same told.kept, told.text_changes, told.pending)
