use Rattle.std.proofs.Common.{◌<◌, length, map, refl, ◌∙◌, arith}
use Rattle.rope_search.specs.Edits.{in_full}
use Rattle.rope_search.specs.Session.{limit_in}
use Rattle.rope_search.proofs.SessionLemmas.{Chosen}
use Rattle.rope_search.proofs.HoldLemmas.{AllKept, kept_set, kept_limit, kept_holds}
use Rattle.rope_search.proofs.EditAllLemmas.{holds_told, refuses_there, step_told, tells_told}
use Rattle.rope_search.proofs.KeptLemmas.{texts_told, still_told}
use Rattle.rope_search.proofs.session.Session.edit_all.Goals as goal

pub invariant_of-self : goal.invariant_of-self
invariant_of-self c =
    let items = c.self.inside.buffers.items in
    let k = c.self.inside.chosen in
    let old = c.index_mut.result.now in
    let new = c.edit_all.new.self in
    let told = c.edit_all.ensures in
    let inside : k < length items = omega (arith, c.self.inside.buffers.ok.0) in
    let kept : AllKept items (limit_in items k) = record { limits = c.self.invariant.1.0; texts = c.self.invariant.1.1 } in
    let held = kept_holds items k old inside c.index_mut.ensures.value kept in
    let holds = holds_told c.substituted_is_text.ensures old new (map in_full c.args.edits.now) held c.edit_all.result told.ok told.err in
    let all = kept_set items k new inside (told.limit ∙ kept_limit items k old inside c.index_mut.ensures.value kept) holds kept in
    (c.self.invariant.0, (all.limits, all.texts))

pub returns-clause-step : goal.returns-clause-step
returns-clause-step c =
    let inside = c.self.inside in
    let old = c.index_mut.result.now in
    let limit = limit_in inside.buffers.items inside.chosen in
    let chosen : Chosen inside.buffers.items inside.chosen limit old c.args.self.now =
    record { inside = omega (arith, inside.buffers.ok.0); is = c.index_mut.ensures.value; all = c.self.invariant.1.0; seen = c.self.view_is } in
    let told = c.edit_all.ensures in
    step_told inside.buffers.items inside.chosen limit old c.edit_all.new.self c.args.self.now chosen (map in_full c.args.edits.now) c.edit_all.result told.accepted told.ok told.fault told.err

pub returns-clause-changed : goal.returns-clause-changed
returns-clause-changed c =
    let inside = c.self.inside in
    let old = c.index_mut.result.now in
    let limit = limit_in inside.buffers.items inside.chosen in
    let chosen : Chosen inside.buffers.items inside.chosen limit old c.args.self.now =
    record { inside = omega (arith, inside.buffers.ok.0); is = c.index_mut.ensures.value; all = c.self.invariant.1.0; seen = c.self.view_is } in
    tells_told inside.buffers.items inside.chosen limit old c.edit_all.new.self c.args.self.now chosen (map in_full c.args.edits.now) c.edit_all.result c.edit_all.ensures.changed c.edit_all.ensures.added

pub returns-clause-unsearched : goal.returns-clause-unsearched
returns-clause-unsearched c = λ fault why.
    let inside = c.self.inside in
    let old = c.index_mut.result.now in
    let limit = limit_in inside.buffers.items inside.chosen in
    let chosen : Chosen inside.buffers.items inside.chosen limit old c.args.self.now =
    record { inside = omega (arith, inside.buffers.ok.0); is = c.index_mut.ensures.value; all = c.self.invariant.1.0; seen = c.self.view_is } in
    c.edit_all.ensures.unsearched fault (refuses_there inside.buffers.items inside.chosen limit old c.edit_all.new.self c.args.self.now chosen (map in_full c.args.edits.now) fault why)

pub returns-clause-texts : goal.returns-clause-texts
returns-clause-texts c =
    let inside = c.self.inside in
    let old = c.index_mut.result.now in
    let limit = limit_in inside.buffers.items inside.chosen in
    let chosen : Chosen inside.buffers.items inside.chosen limit old c.args.self.now =
    record { inside = omega (arith, inside.buffers.ok.0); is = c.index_mut.ensures.value; all = c.self.invariant.1.0; seen = c.self.view_is } in
    texts_told inside.buffers.items inside.chosen limit old c.edit_all.new.self c.args.self.now _ chosen (map in_full c.args.edits.now) c.edit_all.result refl refl refl c.edit_all.ensures.kept c.edit_all.ensures.text_changes c.edit_all.ensures.pending

pub returns-clause-still : goal.returns-clause-still
returns-clause-still c =
    let inside = c.self.inside in
    let old = c.index_mut.result.now in
    let limit = limit_in inside.buffers.items inside.chosen in
    let chosen : Chosen inside.buffers.items inside.chosen limit old c.args.self.now =
    record { inside = omega (arith, inside.buffers.ok.0); is = c.index_mut.ensures.value; all = c.self.invariant.1.0; seen = c.self.view_is } in
    still_told inside.buffers.items inside.chosen limit old c.edit_all.new.self c.args.self.now chosen c.edit_all.result c.edit_all.ensures.err
