use Rattle.std.proofs.Common.{◌≡◌, ◌<◌, ◌≤◌, ◌⊎◌, Some, Err, IsUtf8, length, refl, sym, ap, ◌∙◌, subst, arith}
use Rattle.std.specs.Str.{chars}
use Rattle.rope_search.specs.Session.{LimitedBuffer, with_pattern, limit_in}
use Rattle.rope_search_reports.specs.Pattern.{IsPattern, pattern_limit}
use Rattle.std.proofs.lemmas.Result.{err_from_is_err_and}
use Rattle.rope_search.specs.Order.{SetPattern}
use Rattle.rope_search.specs.Step.{Step}
use Rattle.rope_search_reports.specs.Ticks.{Ticks}
use Rattle.rope_search_reports.specs.Text.{IsText}
use Rattle.rope_search_reports.specs.Pattern.{IsTooHeavy, SpellsNone}
use Rattle.rope_search.proofs.SessionLemmas.{Chosen, Chosen-kept, Step-take_pattern, Step-pattern_err, pattern_rows}
use Rattle.rope_search.proofs.TextLemmas.{Encodes-chars}
use Rattle.rope_search.proofs.HoldLemmas.{AllKept, kept_set, kept_limit, kept_holds, holds_pattern}
use Rattle.rope_search.proofs.ChangedLemmas.{tells}
use Rattle.rope_search.specs.TextsKept.{KeepsOf}
use Rattle.rope_search.proofs.KeptLemmas.{keeps}
use Rattle.rope_search.proofs.session.Session.set_pattern.Goals as goal

pub returns-in_ok-set_pattern-in-Ok-clause-step : goal.returns-in_ok-set_pattern-in-Ok-clause-step
returns-in_ok-set_pattern-in-Ok-clause-step c = λ bytes stands.
    let inside = c.self.inside in
    let old = c.index_mut.result.now in
    let given : bytes ≡ c.in-Kept.bytes.now = rw c.in-Kept.is at stands in
    let same : c.in-Ok.pattern.now ≡ bytes = c.in-Ok.ensures.cases.0 ∙ sym given in
    let utf8 : IsUtf8 bytes = subst IsUtf8 (sym given) c.in-Ok.ensures.cases.1 in
    let told = c.in_ok-set_pattern-in-Ok.ensures in
    let fits : pattern_limit < length c.in-Ok.pattern.now → ⊥ = λ long. absurd (let size = told.too_long long in cc) in
    let short : length c.in-Ok.pattern.now ≤ pattern_limit = omega arith in
    let is : IsPattern (chars c.in-Ok.pattern.now) = told.is_pattern in
    let pattern : c.set_pattern.new.self.state ≡ with_pattern old.state (Some (chars bytes)) = told.ok ∙ ap (λ t. with_pattern old.state (Some (chars t))) same in
    Step-take_pattern c.one_of_three.ensures inside.buffers.items inside.chosen (limit_in inside.buffers.items inside.chosen) old c.set_pattern.new.self bytes c.args.self.now
    (record { inside = omega (arith, inside.buffers.ok.0); is = c.index_mut.ensures.value; all = c.self.invariant.1.0; seen = c.self.view_is })
    utf8 (omega (arith, ap length same)) (subst (λ bs. IsPattern (chars bs)) same is) pattern

pub returns-in_err-set_pattern-in-Ok-clause-step : goal.returns-in_err-set_pattern-in-Ok-clause-step
returns-in_err-set_pattern-in-Ok-clause-step c = λ bytes stands.
    let inside = c.self.inside in
    let old = c.index_mut.result.now in
    let limit = limit_in inside.buffers.items inside.chosen in
    let given : bytes ≡ c.in-Kept.bytes.now = rw c.in-Kept.is at stands in
    let same : c.in-Ok.pattern.now ≡ bytes = c.in-Ok.ensures.cases.0 ∙ sym given in
    let utf8 : IsUtf8 bytes = subst IsUtf8 (sym given) c.in-Ok.ensures.cases.1 in
    let chosen : Chosen inside.buffers.items inside.chosen limit old c.args.self.now =
    record { inside = omega (arith, inside.buffers.ok.0); is = c.index_mut.ensures.value; all = c.self.invariant.1.0; seen = c.self.view_is } in
    let p = err_from_is_err_and c.from_residual.result c.from_residual.ensures.1 in
    let told = c.in_err-set_pattern-in-Ok.ensures in
    let fault = c.in_err-set_pattern-in-Ok.field-0.0 in
    let step = Step-pattern_err c.one_of_three.ensures bytes c.args.self.now fault utf8 told.fault
    (λ e. subst (λ bs. (pattern_limit < length bs) ⊎ IsTooHeavy (chars bs)) same (told.too_much (ap Err e)))
    (λ e. subst (λ bs. (length bs ≤ pattern_limit) × SpellsNone (chars bs)) same (told.no_pattern (ap Err e))) in
    let kept = Chosen-kept inside.buffers.items inside.chosen limit old c.set_pattern.new.self c.args.self.now chosen told.err in
    rw (p.1, p.2) (subst (λ st. Step c.args.self.now.limit c.args.self.now.state (SetPattern bytes) (Err fault) st) (sym kept) step)

pub returns-in_err-set_pattern-in-Ok-clause-rows : goal.returns-in_err-set_pattern-in-Ok-clause-rows
returns-in_err-set_pattern-in-Ok-clause-rows c = λ bytes cost stands costs.
    let inside = c.self.inside in
    let old = c.index_mut.result.now in
    let limit = limit_in inside.buffers.items inside.chosen in
    let given : bytes ≡ c.in-Kept.bytes.now = rw c.in-Kept.is at stands in
    let same : c.in-Ok.pattern.now ≡ bytes = c.in-Ok.ensures.cases.0 ∙ sym given in
    let utf8 : IsUtf8 bytes = subst IsUtf8 (sym given) c.in-Ok.ensures.cases.1 in
    let chosen : Chosen inside.buffers.items inside.chosen limit old c.args.self.now =
    record { inside = omega (arith, inside.buffers.ok.0); is = c.index_mut.ensures.value; all = c.self.invariant.1.0; seen = c.self.view_is } in
    let told = c.set_pattern.ensures in
    let none : (IsPattern (chars bytes) → ⊥) → c.set_pattern.new.tick.count ≤ c.args.tick.now.count =
    λ is_not. omega (arith, ap (λ (t : Ticks). t.count) (told.unsearched (λ is. is_not (subst (λ bs. IsPattern (chars bs)) same is)))) in
    let long : pattern_limit < length bytes → c.set_pattern.new.tick.count ≤ c.args.tick.now.count =
    λ over. omega (arith, ap (λ (t : Ticks). t.count) (told.limit_unsearched (told.too_long (omega (arith, over, ap length same))))) in
    pattern_rows c.one_of_three.ensures inside.buffers.items inside.chosen limit old bytes c.args.self.now c.set_pattern.new.tick.count c.args.tick.now.count chosen utf8 none long told.rows.made cost costs

pub returns-in_ok-set_pattern-in-Ok-clause-rows : goal.returns-in_ok-set_pattern-in-Ok-clause-rows
returns-in_ok-set_pattern-in-Ok-clause-rows c = λ bytes cost stands costs.
    let inside = c.self.inside in
    let old = c.index_mut.result.now in
    let limit = limit_in inside.buffers.items inside.chosen in
    let given : bytes ≡ c.in-Kept.bytes.now = rw c.in-Kept.is at stands in
    let same : c.in-Ok.pattern.now ≡ bytes = c.in-Ok.ensures.cases.0 ∙ sym given in
    let utf8 : IsUtf8 bytes = subst IsUtf8 (sym given) c.in-Ok.ensures.cases.1 in
    let chosen : Chosen inside.buffers.items inside.chosen limit old c.args.self.now =
    record { inside = omega (arith, inside.buffers.ok.0); is = c.index_mut.ensures.value; all = c.self.invariant.1.0; seen = c.self.view_is } in
    let told = c.set_pattern.ensures in
    let none : (IsPattern (chars bytes) → ⊥) → c.set_pattern.new.tick.count ≤ c.args.tick.now.count =
    λ is_not. omega (arith, ap (λ (t : Ticks). t.count) (told.unsearched (λ is. is_not (subst (λ bs. IsPattern (chars bs)) same is)))) in
    let long : pattern_limit < length bytes → c.set_pattern.new.tick.count ≤ c.args.tick.now.count =
    λ over. omega (arith, ap (λ (t : Ticks). t.count) (told.limit_unsearched (told.too_long (omega (arith, over, ap length same))))) in
    pattern_rows c.one_of_three.ensures inside.buffers.items inside.chosen limit old bytes c.args.self.now c.set_pattern.new.tick.count c.args.tick.now.count chosen utf8 none long told.rows.made cost costs

pub invariant_of-self-in-Ok : goal.invariant_of-self-in-Ok
invariant_of-self-in-Ok c =
    let items = c.self.inside.buffers.items in
    let k = c.self.inside.chosen in
    let new = c.set_pattern.new.self in
    let inside : k < length items = omega (arith, c.self.inside.buffers.ok.0) in
    let kept : AllKept items (limit_in items k) = record { limits = c.self.invariant.1.0; texts = c.self.invariant.1.1 } in
    let told = c.in_ok-set_pattern-in-Ok.ensures in
    let is = subst (λ t. IsText (chars t)) (sym c.in-Ok.ensures.cases.0) (Encodes-chars c.in-Kept.bytes.now c.in-Ok.ensures.cases.1).scalars in
    let holds = holds_pattern c.index_mut.result.now.state new.state (chars c.in-Ok.pattern.now) (kept_holds items k c.index_mut.result.now inside c.index_mut.ensures.value kept) is told.is_pattern told.ok in
    let all = kept_set items k new inside (told.limit ∙ kept_limit items k c.index_mut.result.now inside c.index_mut.ensures.value kept) holds kept in
    (c.self.invariant.0, (all.limits, all.texts))

pub returns-in_ok-set_pattern-in-Ok-clause-changed : goal.returns-in_ok-set_pattern-in-Ok-clause-changed
returns-in_ok-set_pattern-in-Ok-clause-changed c = λ bytes stands.
    let inside = c.self.inside in
    let old = c.index_mut.result.now in
    let limit = limit_in inside.buffers.items inside.chosen in
    let chosen : Chosen inside.buffers.items inside.chosen limit old c.args.self.now =
    record { inside = omega (arith, inside.buffers.ok.0); is = c.index_mut.ensures.value; all = c.self.invariant.1.0; seen = c.self.view_is } in
    tells (SetPattern bytes) inside.buffers.items inside.chosen limit old c.set_pattern.new.self c.args.self.now chosen c.in_ok-set_pattern-in-Ok.ensures.changed tt

pub returns-in_ok-set_pattern-in-Ok-clause-texts : goal.returns-in_ok-set_pattern-in-Ok-clause-texts
returns-in_ok-set_pattern-in-Ok-clause-texts c = λ bytes stands.
    let inside = c.self.inside in
    let old = c.index_mut.result.now in
    let limit = limit_in inside.buffers.items inside.chosen in
    let chosen : Chosen inside.buffers.items inside.chosen limit old c.args.self.now =
    record { inside = omega (arith, inside.buffers.ok.0); is = c.index_mut.ensures.value; all = c.self.invariant.1.0; seen = c.self.view_is } in
    let told = c.in_ok-set_pattern-in-Ok.ensures in
    keeps (KeepsOf (SetPattern bytes)) inside.buffers.items inside.chosen limit old c.set_pattern.new.self c.args.self.now _ chosen refl refl refl (told.changes, told.text_changes, ap (λ (b : LimitedBuffer). b.pending) told.all)
