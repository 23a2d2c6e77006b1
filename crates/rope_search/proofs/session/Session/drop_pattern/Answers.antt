use Rattle.std.proofs.Common.{None, refl, arith}
use Rattle.rope_search.specs.Session.{with_pattern, limit_in}
use Rattle.rope_search.proofs.SessionLemmas.{Chosen-set, Chosen}
use Rattle.rope_search.proofs.ChangedLemmas.{tells}
use Rattle.rope_search.specs.Order.{DropPattern}
use Rattle.rope_search.specs.TextsKept.{KeepsOf}
use Rattle.rope_search.proofs.KeptLemmas.{keeps}
use Rattle.rope_search.proofs.session.Session.drop_pattern.Goals as goal

pub returns-clause-state : goal.returns-clause-state
returns-clause-state c =
    let inside = c.self.inside in
    Chosen-set inside.buffers.items inside.chosen (limit_in inside.buffers.items inside.chosen) c.index_mut.result.now c.off.new.self c.args.self.now (λ b. with_pattern b None)
    (record { inside = omega (arith, inside.buffers.ok.0); is = c.index_mut.ensures.value; all = c.self.invariant.1.0; seen = c.self.view_is }) c.off.ensures.off

pub returns-clause-changed : goal.returns-clause-changed
returns-clause-changed c =
    let inside = c.self.inside in
    let old = c.index_mut.result.now in
    let limit = limit_in inside.buffers.items inside.chosen in
    let chosen : Chosen inside.buffers.items inside.chosen limit old c.args.self.now =
    record { inside = omega (arith, inside.buffers.ok.0); is = c.index_mut.ensures.value; all = c.self.invariant.1.0; seen = c.self.view_is } in
    tells DropPattern inside.buffers.items inside.chosen limit old c.off.new.self c.args.self.now chosen c.off.ensures.changed tt

pub returns-clause-texts : goal.returns-clause-texts
returns-clause-texts c =
    let inside = c.self.inside in
    let old = c.index_mut.result.now in
    let limit = limit_in inside.buffers.items inside.chosen in
    let chosen : Chosen inside.buffers.items inside.chosen limit old c.args.self.now =
    record { inside = omega (arith, inside.buffers.ok.0); is = c.index_mut.ensures.value; all = c.self.invariant.1.0; seen = c.self.view_is } in
    let told = c.off.ensures in
    keeps (KeepsOf DropPattern) inside.buffers.items inside.chosen limit old c.off.new.self c.args.self.now _ chosen refl refl refl (told.changes, told.text_changes, told.pending)
