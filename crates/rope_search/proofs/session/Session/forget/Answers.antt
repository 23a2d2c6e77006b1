use Rattle.std.proofs.Common.{◌<◌, length, refl, sym, ◌∙◌, arith}
use Rattle.rope_search.specs.Session.{current_text, with_text, limit_in}
use Rattle.rope_search.proofs.SessionLemmas.{Chosen-set, Chosen}
use Rattle.rope_search.proofs.HoldLemmas.{AllKept, kept_set, kept_limit, kept_holds, holds_forgotten}
use Rattle.rope_search.proofs.ChangedLemmas.{told-kept}
use Rattle.rope_search.proofs.KeptLemmas.{keeps}
use Rattle.rope_search.specs.TextsKept.{KeepsSteps}
use Rattle.rope_search.proofs.UndoStepLemmas.{changes_with_none}
use Rattle.rope_search.proofs.session.Session.forget.Goals as goal

pub returns-clause-state : goal.returns-clause-state
returns-clause-state c =
    let inside = c.self.inside in
    Chosen-set inside.buffers.items inside.chosen (limit_in inside.buffers.items inside.chosen) c.index_mut.result.now c.forget.new.self c.args.self.now (λ b. with_text b (current_text b))
    (record { inside = omega (arith, inside.buffers.ok.0); is = c.index_mut.ensures.value; all = c.self.invariant.1.0; seen = c.self.view_is }) c.forget.ensures.state

pub invariant_of-self : goal.invariant_of-self
invariant_of-self c =
    let items = c.self.inside.buffers.items in
    let k = c.self.inside.chosen in
    let old = c.index_mut.result.now in
    let new = c.forget.new.self in
    let inside : k < length items = omega (arith, c.self.inside.buffers.ok.0) in
    let kept : AllKept items (limit_in items k) = record { limits = c.self.invariant.1.0; texts = c.self.invariant.1.1 } in
    let holds = holds_forgotten old.state new.state (kept_holds items k old inside c.index_mut.ensures.value kept) c.forget.ensures.state in
    let all = kept_set items k new inside (c.forget.ensures.limit ∙ kept_limit items k old inside c.index_mut.ensures.value kept) holds kept in
    (c.self.invariant.0, (all.limits, all.texts))

pub returns-clause-changed : goal.returns-clause-changed
returns-clause-changed c =
    let inside = c.self.inside in
    let old = c.index_mut.result.now in
    let limit = limit_in inside.buffers.items inside.chosen in
    let chosen : Chosen inside.buffers.items inside.chosen limit old c.args.self.now =
    record { inside = omega (arith, inside.buffers.ok.0); is = c.index_mut.ensures.value; all = c.self.invariant.1.0; seen = c.self.view_is } in
    told-kept inside.buffers.items inside.chosen limit old c.forget.new.self c.args.self.now chosen c.forget.ensures.changed

pub returns-clause-kept : goal.returns-clause-kept
returns-clause-kept c =
    let inside = c.self.inside in
    let old = c.index_mut.result.now in
    let limit = limit_in inside.buffers.items inside.chosen in
    let chosen : Chosen inside.buffers.items inside.chosen limit old c.args.self.now =
    record { inside = omega (arith, inside.buffers.ok.0); is = c.index_mut.ensures.value; all = c.self.invariant.1.0; seen = c.self.view_is } in
    let told = c.forget.ensures in
    keeps (KeepsSteps 0) inside.buffers.items inside.chosen limit old c.forget.new.self c.args.self.now _ chosen refl refl refl (told.changes ∙ sym (changes_with_none old.changes old.state.current), told.text_changes, told.pending)
