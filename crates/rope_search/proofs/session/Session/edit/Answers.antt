use Rattle.std.proofs.Common.{◌≡◌, ◌+◌, ◌<◌, ◌≤◌, true, IsUtf8, Err, length, refl, sym, ap, ◌∙◌, subst, arith}
use Rattle.std.specs.Str.{chars}
use Rattle.std.proofs.lemmas.Result.{err_from_is_err_and}
use Rattle.rope_search_io.specs.declared.faults.Fault.TheVariants.{Size}
use Rattle.rope_search_reports.specs.Ticks.{Ticks}
use Rattle.rope_search.specs.Order.{EditText}
use Rattle.rope_search.specs.Session.{limit_in, current_text}
use Rattle.rope_search.specs.Places.{HasNoneBetween, GetsTooLong, IsEdit}
use Rattle.rope_search.specs.Step.{Step}
use Rattle.rope_search.specs.Cost.{rows_anew}
use Rattle.rope_search.proofs.SessionLemmas.{Chosen, Chosen-state, Chosen-limit, Chosen-kept}
use Rattle.rope_search.proofs.EditLemmas.{Step-take_edit, Step-edit_err, Step-edit_utf8, Step-edit_long, rows_edited}
use Rattle.rope_search_reports.specs.Text.{IsText}
use Rattle.rope_search.proofs.TextLemmas.{Encodes-chars}
use Rattle.rope_search.proofs.TextLaws.{holds_edit}
use Rattle.rope_search.proofs.HoldLemmas.{AllKept, kept_set, kept_limit, kept_holds}
use Rattle.rope_search.proofs.ChangedLemmas.{tells-edit}
use Rattle.rope_search.specs.TextsKept.{KeepsOf}
use Rattle.rope_search.proofs.KeptLemmas.{keeps}
use Rattle.rope_search.specs.Histories.{KeepsEdit}
use Rattle.rope_search.proofs.session.Session.edit.Goals as goal

pub returns-in_err-edit-in-Ok-clause-step : goal.returns-in_err-edit-in-Ok-clause-step
returns-in_err-edit-in-Ok-clause-step c = λ bytes stands.
    let inside = c.self.inside in
    let old = c.index_mut.result.now in
    let given : bytes ≡ c.in-Kept.bytes.now = rw c.in-Kept.is at stands in
    let same : c.in-Ok.text.now ≡ bytes = c.in-Ok.ensures.cases.0 ∙ sym given in
    let utf8 : IsUtf8 bytes = subst IsUtf8 (sym given) c.in-Ok.ensures.cases.1 in
    let chosen : Chosen inside.buffers.items inside.chosen (limit_in inside.buffers.items inside.chosen) old c.args.self.now =
    record { inside = omega (arith, inside.buffers.ok.0); is = c.index_mut.ensures.value; all = c.self.invariant.1.0; seen = c.self.view_is } in
    let p = err_from_is_err_and c.from_residual.result c.from_residual.ensures.1 in
    let told = c.in_err-edit-in-Ok.ensures in
    let fault = c.in_err-edit-in-Ok.field-0.0 in
    let long : fault ≡ Size → GetsTooLong old.limit (current_text old.state) c.args.from c.args.to (length bytes) =
    λ e. subst (λ t. GetsTooLong old.limit (current_text old.state) c.args.from c.args.to (length t)) same (told.size.0 (ap Err e)) in
    let step = Step-edit_err old c.args.from c.args.to bytes c.args.self.now fault
    (sym (Chosen-state inside.buffers.items inside.chosen (limit_in inside.buffers.items inside.chosen) old c.args.self.now chosen))
    (Chosen-limit inside.buffers.items inside.chosen (limit_in inside.buffers.items inside.chosen) old c.args.self.now chosen)
    utf8 told.fault (λ e. told.range.0 (ap Err e)) long in
    let kept = Chosen-kept inside.buffers.items inside.chosen (limit_in inside.buffers.items inside.chosen) old c.edit.new.self c.args.self.now chosen told.err in
    rw (p.1, p.2) (subst (λ st. Step c.args.self.now.limit c.args.self.now.state (EditText c.args.from c.args.to bytes) (Err fault) st) (sym kept) step)

pub returns-in_err-edit-in-Ok-clause-rows : goal.returns-in_err-edit-in-Ok-clause-rows
returns-in_err-edit-in-Ok-clause-rows c = λ bytes cost stands costs.
    let inside = c.self.inside in
    let old = c.index_mut.result.now in
    let given : bytes ≡ c.in-Kept.bytes.now = rw c.in-Kept.is at stands in
    let same : c.in-Ok.text.now ≡ bytes = c.in-Ok.ensures.cases.0 ∙ sym given in
    let utf8 : IsUtf8 bytes = subst IsUtf8 (sym given) c.in-Ok.ensures.cases.1 in
    let chosen : Chosen inside.buffers.items inside.chosen (limit_in inside.buffers.items inside.chosen) old c.args.self.now =
    record { inside = omega (arith, inside.buffers.ok.0); is = c.index_mut.ensures.value; all = c.self.invariant.1.0; seen = c.self.view_is } in
    let told = c.edit.ensures in
    let nowhere : HasNoneBetween (current_text old.state) c.args.from c.args.to → c.edit.new.tick.count ≤ c.args.tick.now.count =
    λ none. omega (arith, ap (λ (t : Ticks). t.count) (told.range_unsearched (told.range.1 none))) in
    let long : GetsTooLong old.limit (current_text old.state) c.args.from c.args.to (length bytes) → c.edit.new.tick.count ≤ c.args.tick.now.count =
    λ over. omega (
      arith,
      ap (λ (t : Ticks). t.count)
          (told.size_unsearched (told.size.1 (subst (λ t. GetsTooLong old.limit (current_text old.state) c.args.from c.args.to (length t)) (sym same) over))),
    ) in
    let rows : c.edit.new.tick.count ≤ c.args.tick.now.count + rows_anew old.state (chars bytes) =
    omega (arith, told.rows.made, ap (λ t. rows_anew old.state (chars t)) same) in
    rows_edited inside.buffers.items inside.chosen (limit_in inside.buffers.items inside.chosen) old c.args.from c.args.to bytes c.args.self.now
    c.edit.new.tick.count c.args.tick.now.count chosen utf8 nowhere long rows cost costs

pub returns-in_ok-edit-in-Ok-clause-step : goal.returns-in_ok-edit-in-Ok-clause-step
returns-in_ok-edit-in-Ok-clause-step c = λ bytes stands.
    let inside = c.self.inside in
    let old = c.index_mut.result.now in
    let given : bytes ≡ c.in-Kept.bytes.now = rw c.in-Kept.is at stands in
    let same : c.in-Ok.text.now ≡ bytes = c.in-Ok.ensures.cases.0 ∙ sym given in
    let utf8 : IsUtf8 bytes = subst IsUtf8 (sym given) c.in-Ok.ensures.cases.1 in
    let chosen : Chosen inside.buffers.items inside.chosen (limit_in inside.buffers.items inside.chosen) old c.args.self.now =
    record { inside = omega (arith, inside.buffers.ok.0); is = c.index_mut.ensures.value; all = c.self.invariant.1.0; seen = c.self.view_is } in
    let told = c.in_ok-edit-in-Ok.ensures in
    let fits : GetsTooLong old.limit (current_text old.state) c.args.from c.args.to (length bytes) → ⊥ =
    λ over. absurd (let size = told.size.1 (subst (λ t. GetsTooLong old.limit (current_text old.state) c.args.from c.args.to (length t)) (sym same) over) in cc) in
    let edit : IsEdit old.state c.args.from c.args.to (chars bytes) c.edit.new.self.state =
    subst (λ t. IsEdit old.state c.args.from c.args.to (chars t) c.edit.new.self.state) same told.ok in
    Step-take_edit inside.buffers.items inside.chosen (limit_in inside.buffers.items inside.chosen) old c.edit.new.self c.args.from c.args.to bytes c.args.self.now
    chosen utf8 edit fits

pub returns-in_ok-edit-in-Ok-clause-rows : goal.returns-in_ok-edit-in-Ok-clause-rows
returns-in_ok-edit-in-Ok-clause-rows c = λ bytes cost stands costs.
    let inside = c.self.inside in
    let old = c.index_mut.result.now in
    let given : bytes ≡ c.in-Kept.bytes.now = rw c.in-Kept.is at stands in
    let same : c.in-Ok.text.now ≡ bytes = c.in-Ok.ensures.cases.0 ∙ sym given in
    let utf8 : IsUtf8 bytes = subst IsUtf8 (sym given) c.in-Ok.ensures.cases.1 in
    let chosen : Chosen inside.buffers.items inside.chosen (limit_in inside.buffers.items inside.chosen) old c.args.self.now =
    record { inside = omega (arith, inside.buffers.ok.0); is = c.index_mut.ensures.value; all = c.self.invariant.1.0; seen = c.self.view_is } in
    let told = c.edit.ensures in
    let nowhere : HasNoneBetween (current_text old.state) c.args.from c.args.to → c.edit.new.tick.count ≤ c.args.tick.now.count =
    λ none. omega (arith, ap (λ (t : Ticks). t.count) (told.range_unsearched (told.range.1 none))) in
    let long : GetsTooLong old.limit (current_text old.state) c.args.from c.args.to (length bytes) → c.edit.new.tick.count ≤ c.args.tick.now.count =
    λ over. omega (
      arith,
      ap (λ (t : Ticks). t.count)
          (told.size_unsearched (told.size.1 (subst (λ t. GetsTooLong old.limit (current_text old.state) c.args.from c.args.to (length t)) (sym same) over))),
    ) in
    let rows : c.edit.new.tick.count ≤ c.args.tick.now.count + rows_anew old.state (chars bytes) =
    omega (arith, told.rows.made, ap (λ t. rows_anew old.state (chars t)) same) in
    rows_edited inside.buffers.items inside.chosen (limit_in inside.buffers.items inside.chosen) old c.args.from c.args.to bytes c.args.self.now
    c.edit.new.tick.count c.args.tick.now.count chosen utf8 nowhere long rows cost costs

pub returns-in-Err-clause-step : goal.returns-in-Err-clause-step
returns-in-Err-clause-step c = λ bytes stands.
    let given : bytes ≡ c.in-Kept.bytes.now = rw c.in-Kept.is at stands in
    let broken : ¬ (IsUtf8 bytes) = subst (λ bs. ¬ (IsUtf8 bs)) (sym given) c.in-Err.ensures.cases.0 in
    Step-edit_utf8 c.buffer.result.now c.args.from c.args.to bytes c.args.self.now c.range_or.result c.buffer.ensures.state c.range_or.ensures broken

pub returns-in-Long-true-clause-step : goal.returns-in-Long-true-clause-step
returns-in-Long-true-clause-step c = λ bytes stands.
    let long = rw c.in-Long-true.is at stands in
    let told : c.in-Long-true.utf8 ≡ true = cc in
    Step-edit_long c.buffer-in-Long-true.result.now c.args.from c.args.to bytes c.args.self.now c.range_or-in-Long-true.result
    c.buffer-in-Long-true.ensures.state c.range_or-in-Long-true.ensures (long.1.0 told) long.0

pub returns-in-Long-false-clause-step : goal.returns-in-Long-false-clause-step
returns-in-Long-false-clause-step c = λ bytes stands.
    let long = rw c.in-Long-false.is at stands in
    Step-edit_utf8 c.buffer-in-Long-false.result.now c.args.from c.args.to bytes c.args.self.now c.range_or-in-Long-false.result
    c.buffer-in-Long-false.ensures.state c.range_or-in-Long-false.ensures (λ text. absurd (let e = long.1.1 text in cc))

pub invariant_of-self-in-Ok : goal.invariant_of-self-in-Ok
invariant_of-self-in-Ok c =
    let items = c.self.inside.buffers.items in
    let k = c.self.inside.chosen in
    let new = c.edit.new.self in
    let inside : k < length items = omega (arith, c.self.inside.buffers.ok.0) in
    let kept : AllKept items (limit_in items k) = record { limits = c.self.invariant.1.0; texts = c.self.invariant.1.1 } in
    let told = c.in_ok-edit-in-Ok.ensures in
    let held = kept_holds items k c.index_mut.result.now inside c.index_mut.ensures.value kept in
    let is = subst (λ t. IsText (chars t)) (sym c.in-Ok.ensures.cases.0) (Encodes-chars c.in-Kept.bytes.now c.in-Ok.ensures.cases.1).scalars in
    let holds = holds_edit c.index_mut.result.now.state new.state c.args.from c.args.to (chars c.in-Ok.text.now) held is told.ok in
    let all = kept_set items k new inside (told.limit ∙ kept_limit items k c.index_mut.result.now inside c.index_mut.ensures.value kept) holds kept in
    (c.self.invariant.0, (all.limits, all.texts))

pub returns-in_ok-edit-in-Ok-clause-changed : goal.returns-in_ok-edit-in-Ok-clause-changed
returns-in_ok-edit-in-Ok-clause-changed c = λ bytes stands.
    let inside = c.self.inside in
    let old = c.index_mut.result.now in
    let limit = limit_in inside.buffers.items inside.chosen in
    let chosen : Chosen inside.buffers.items inside.chosen limit old c.args.self.now =
    record { inside = omega (arith, inside.buffers.ok.0); is = c.index_mut.ensures.value; all = c.self.invariant.1.0; seen = c.self.view_is } in
    let given : bytes ≡ c.in-Kept.bytes.now = rw c.in-Kept.is at stands in
    let same : c.in-Ok.text.now ≡ bytes = c.in-Ok.ensures.cases.0 ∙ sym given in
    let told = c.in_ok-edit-in-Ok.ensures in
    tells-edit c.args.from c.args.to bytes inside.buffers.items inside.chosen limit old c.edit.new.self c.args.self.now chosen told.changed
    (omega (arith, told.added, ap (λ t. rows_anew old.state (chars t)) same))

pub returns-in_ok-edit-in-Ok-clause-texts : goal.returns-in_ok-edit-in-Ok-clause-texts
returns-in_ok-edit-in-Ok-clause-texts c = λ bytes stands.
    let inside = c.self.inside in
    let old = c.index_mut.result.now in
    let limit = limit_in inside.buffers.items inside.chosen in
    let chosen : Chosen inside.buffers.items inside.chosen limit old c.args.self.now =
    record { inside = omega (arith, inside.buffers.ok.0); is = c.index_mut.ensures.value; all = c.self.invariant.1.0; seen = c.self.view_is } in
    let given : bytes ≡ c.in-Kept.bytes.now = rw c.in-Kept.is at stands in
    let same : c.in-Ok.text.now ≡ bytes = c.in-Ok.ensures.cases.0 ∙ sym given in
    let told = c.in_ok-edit-in-Ok.ensures in
    keeps (KeepsOf (EditText c.args.from c.args.to bytes)) inside.buffers.items inside.chosen limit old c.edit.new.self c.args.self.now _ chosen refl refl refl
    (subst (λ t. KeepsEdit old c.args.from c.args.to (chars t) c.edit.new.self) same told.kept, told.text_changes, told.pending)
