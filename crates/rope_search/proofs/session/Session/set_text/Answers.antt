use Rattle.std.proofs.Common.{◌≡◌, ◌+◌, ◌<◌, ◌≤◌, IsUtf8, length, refl, sym, ap, ◌∙◌, subst, arith}
use Rattle.std.specs.Str.{chars}
use Rattle.rope_search_reports.specs.Ticks.{Ticks}
use Rattle.rope_search_reports.specs.Text.{IsText}
use Rattle.rope_search.specs.Session.{with_text, limit_in}
use Rattle.rope_search.specs.Cost.{rows_anew}
use Rattle.rope_search.proofs.SessionLemmas.{Step-take_text, rows_taken, Chosen}
use Rattle.rope_search.proofs.TextLemmas.{Encodes-chars}
use Rattle.rope_search.proofs.HoldLemmas.{AllKept, kept_set, kept_limit, kept_holds, holds_text}
use Rattle.rope_search.proofs.ChangedLemmas.{tells}
use Rattle.rope_search.specs.Order.{SetText}
use Rattle.rope_search.specs.TextsKept.{KeepsOf}
use Rattle.rope_search.proofs.KeptLemmas.{keeps}
use Rattle.rope_search.proofs.session.Session.set_text.Goals as goal

pub returns-in_ok-set_text-in-Ok-clause-step : goal.returns-in_ok-set_text-in-Ok-clause-step
returns-in_ok-set_text-in-Ok-clause-step c = λ bytes stands.
    let inside = c.self.inside in
    let old = c.index_mut.result.now in
    let given : bytes ≡ c.in-Kept.bytes.now = rw c.in-Kept.is at stands in
    let same : c.in-Ok.text.now ≡ bytes = c.in-Ok.ensures.cases.0 ∙ sym given in
    let utf8 : IsUtf8 bytes = subst IsUtf8 (sym given) c.in-Ok.ensures.cases.1 in
    let told = c.in_ok-set_text-in-Ok.ensures in
    let fits : old.limit < length c.in-Ok.text.now → ⊥ = λ long. absurd (let size = told.size.1 long in cc) in
    let text : c.set_text.new.self.state ≡ with_text old.state (chars bytes) = told.ok ∙ ap (λ t. with_text old.state (chars t)) same in
    Step-take_text inside.buffers.items inside.chosen (limit_in inside.buffers.items inside.chosen) old c.set_text.new.self bytes c.args.self.now
    (record { inside = omega (arith, inside.buffers.ok.0); is = c.index_mut.ensures.value; all = c.self.invariant.1.0; seen = c.self.view_is })
    utf8 (omega (arith, ap length same)) text

pub returns-in_err-set_text-in-Ok-clause-rows : goal.returns-in_err-set_text-in-Ok-clause-rows
returns-in_err-set_text-in-Ok-clause-rows c = λ bytes cost stands costs.
    let inside = c.self.inside in
    let old = c.index_mut.result.now in
    let told = c.set_text.ensures in
    let given : bytes ≡ c.in-Kept.bytes.now = rw c.in-Kept.is at stands in
    let same : c.in-Ok.text.now ≡ bytes = c.in-Ok.ensures.cases.0 ∙ sym given in
    let utf8 : IsUtf8 bytes = subst IsUtf8 (sym given) c.in-Ok.ensures.cases.1 in
    let long : old.limit < length bytes → c.set_text.new.tick.count ≤ c.args.tick.now.count =
    λ over. omega (arith, ap (λ (t : Ticks). t.count) (told.unsearched (told.size.1 (omega (arith, over, ap length same))))) in
    let rows : c.set_text.new.tick.count ≤ c.args.tick.now.count + rows_anew old.state (chars bytes) =
    omega (arith, told.rows.made, ap (λ t. rows_anew old.state (chars t)) same) in
    rows_taken inside.buffers.items inside.chosen (limit_in inside.buffers.items inside.chosen) old bytes c.args.self.now c.set_text.new.tick.count c.args.tick.now.count
    (record { inside = omega (arith, inside.buffers.ok.0); is = c.index_mut.ensures.value; all = c.self.invariant.1.0; seen = c.self.view_is })
    utf8 long rows cost costs

pub returns-in_ok-set_text-in-Ok-clause-rows : goal.returns-in_ok-set_text-in-Ok-clause-rows
returns-in_ok-set_text-in-Ok-clause-rows c = λ bytes cost stands costs.
    let inside = c.self.inside in
    let old = c.index_mut.result.now in
    let told = c.set_text.ensures in
    let given : bytes ≡ c.in-Kept.bytes.now = rw c.in-Kept.is at stands in
    let same : c.in-Ok.text.now ≡ bytes = c.in-Ok.ensures.cases.0 ∙ sym given in
    let utf8 : IsUtf8 bytes = subst IsUtf8 (sym given) c.in-Ok.ensures.cases.1 in
    let long : old.limit < length bytes → c.set_text.new.tick.count ≤ c.args.tick.now.count =
    λ over. omega (arith, ap (λ (t : Ticks). t.count) (told.unsearched (told.size.1 (omega (arith, over, ap length same))))) in
    let rows : c.set_text.new.tick.count ≤ c.args.tick.now.count + rows_anew old.state (chars bytes) =
    omega (arith, told.rows.made, ap (λ t. rows_anew old.state (chars t)) same) in
    rows_taken inside.buffers.items inside.chosen (limit_in inside.buffers.items inside.chosen) old bytes c.args.self.now c.set_text.new.tick.count c.args.tick.now.count
    (record { inside = omega (arith, inside.buffers.ok.0); is = c.index_mut.ensures.value; all = c.self.invariant.1.0; seen = c.self.view_is })
    utf8 long rows cost costs

pub invariant_of-self-in-Ok : goal.invariant_of-self-in-Ok
invariant_of-self-in-Ok c =
    let items = c.self.inside.buffers.items in
    let k = c.self.inside.chosen in
    let new = c.set_text.new.self in
    let inside : k < length items = omega (arith, c.self.inside.buffers.ok.0) in
    let kept : AllKept items (limit_in items k) = record { limits = c.self.invariant.1.0; texts = c.self.invariant.1.1 } in
    let told = c.set_text.ensures in
    let is = subst (λ t. IsText (chars t)) (sym c.in-Ok.ensures.cases.0) (Encodes-chars c.in-Kept.bytes.now c.in-Ok.ensures.cases.1).scalars in
    let holds = holds_text c.index_mut.result.now.state new.state (chars c.in-Ok.text.now) (kept_holds items k c.index_mut.result.now inside c.index_mut.ensures.value kept) is (c.in_ok-set_text-in-Ok.ensures.ok) in
    let all = kept_set items k new inside (told.limit ∙ kept_limit items k c.index_mut.result.now inside c.index_mut.ensures.value kept) holds kept in
    (c.self.invariant.0, (all.limits, all.texts))

pub returns-in_ok-set_text-in-Ok-clause-changed : goal.returns-in_ok-set_text-in-Ok-clause-changed
returns-in_ok-set_text-in-Ok-clause-changed c = λ bytes stands.
    let inside = c.self.inside in
    let old = c.index_mut.result.now in
    let limit = limit_in inside.buffers.items inside.chosen in
    let chosen : Chosen inside.buffers.items inside.chosen limit old c.args.self.now =
    record { inside = omega (arith, inside.buffers.ok.0); is = c.index_mut.ensures.value; all = c.self.invariant.1.0; seen = c.self.view_is } in
    tells (SetText bytes) inside.buffers.items inside.chosen limit old c.set_text.new.self c.args.self.now chosen c.in_ok-set_text-in-Ok.ensures.changed tt

pub returns-in_ok-set_text-in-Ok-clause-texts : goal.returns-in_ok-set_text-in-Ok-clause-texts
returns-in_ok-set_text-in-Ok-clause-texts c = λ bytes stands.
    let inside = c.self.inside in
    let old = c.index_mut.result.now in
    let limit = limit_in inside.buffers.items inside.chosen in
    let chosen : Chosen inside.buffers.items inside.chosen limit old c.args.self.now =
    record { inside = omega (arith, inside.buffers.ok.0); is = c.index_mut.ensures.value; all = c.self.invariant.1.0; seen = c.self.view_is } in
    let told = c.in_ok-set_text-in-Ok.ensures in
    keeps (KeepsOf (SetText bytes)) inside.buffers.items inside.chosen limit old c.set_text.new.self c.args.self.now _ chosen refl refl refl (told.changes, told.text_changes, told.whole, told.pending)
