use Rattle.std.proofs.Common.{refl, arith}
use Rattle.rope_search.specs.Session.{limit_in}
use Rattle.rope_search.proofs.SessionLemmas.{Chosen}
use Rattle.rope_search.proofs.ChangedLemmas.{told-kept}
use Rattle.rope_search.proofs.JoinedSessions.{joined_state, joined_kept}
use Rattle.rope_search.proofs.session.Session.join.Goals as goal

pub returns-clause-state : goal.returns-clause-state
returns-clause-state c =
    let inside = c.self.inside in
    let old = c.index_mut.result.now in
    let limit = limit_in inside.buffers.items inside.chosen in
    let chosen : Chosen inside.buffers.items inside.chosen limit old c.args.self.now =
    record { inside = omega (arith, inside.buffers.ok.0); is = c.index_mut.ensures.value; all = c.self.invariant.1.0; seen = c.self.view_is } in
    joined_state inside.buffers.items inside.chosen limit old c.join.new.self c.args.self.now c.args.steps chosen c.join.result c.join.ensures.state

pub returns-clause-kept : goal.returns-clause-kept
returns-clause-kept c =
    let inside = c.self.inside in
    let old = c.index_mut.result.now in
    let limit = limit_in inside.buffers.items inside.chosen in
    let chosen : Chosen inside.buffers.items inside.chosen limit old c.args.self.now =
    record { inside = omega (arith, inside.buffers.ok.0); is = c.index_mut.ensures.value; all = c.self.invariant.1.0; seen = c.self.view_is } in
    joined_kept inside.buffers.items inside.chosen limit old c.join.new.self c.args.self.now _ c.args.steps chosen c.join.result refl refl refl c.join.ensures.changes c.join.ensures.text_changes c.join.ensures.pending

pub returns-clause-changed : goal.returns-clause-changed
returns-clause-changed c =
    let inside = c.self.inside in
    let old = c.index_mut.result.now in
    let limit = limit_in inside.buffers.items inside.chosen in
    let chosen : Chosen inside.buffers.items inside.chosen limit old c.args.self.now =
    record { inside = omega (arith, inside.buffers.ok.0); is = c.index_mut.ensures.value; all = c.self.invariant.1.0; seen = c.self.view_is } in
    told-kept inside.buffers.items inside.chosen limit old c.join.new.self c.args.self.now chosen c.join.ensures.changed
