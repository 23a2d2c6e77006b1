use Rattle.std.proofs.Common.{◌≡◌, ◌<◌, Err, ap, arith, inr, length, refl, subst, sym, ◌∙◌}
use Rattle.std.specs.Str.{chars}
use Rattle.rope_search.specs.Laws.{HoldsTexts}
use Rattle.rope_search.specs.Pending.{Advances, Begins, Cancels}
use Rattle.rope_search.specs.Session.{LimitedBuffer, limit_in}
use Rattle.rope_search.proofs.HoldLemmas.{AllKept, kept_set, kept_limit, kept_holds}
use Rattle.rope_search.proofs.KeptLemmas.{keeps, chosen-there}
use Rattle.rope_search.proofs.PendingSessions.{answer_told, advanced_holds, advanced_limit, advanced_state}
use Rattle.rope_search.proofs.SessionLemmas.{Chosen}
use Rattle.rope_search.proofs.session.Session.advance.Goals as goal

pub invariant_of-self : goal.invariant_of-self
invariant_of-self c =
    let items = c.self.inside.buffers.items in
    let k = c.self.inside.chosen in
    let old = c.index_mut.result.now in
    let new = c.advance.new.self in
    let told = c.advance.ensures in
    let inside : k < length items = omega (arith, c.self.inside.buffers.ok.0) in
    let kept : AllKept items (limit_in items k) = record { limits = c.self.invariant.1.0; texts = c.self.invariant.1.1 } in
    let held = kept_holds items k old inside c.index_mut.ensures.value kept in
    let holds : HoldsTexts new.state = advanced_holds c.args.max_lines old new c.advance.result held told.advances told.is_pattern told.nothing told.err in
    let all = kept_set items k new inside (advanced_limit c.args.max_lines old new c.advance.result told.advances told.nothing told.err ∙ kept_limit items k old inside c.index_mut.ensures.value kept) holds kept in
    (c.self.invariant.0, (all.limits, all.texts))

pub returns-clause-advances : goal.returns-clause-advances
returns-clause-advances c =
    let inside = c.self.inside in
    let old = c.index_mut.result.now in
    let limit = limit_in inside.buffers.items inside.chosen in
    let chosen : Chosen inside.buffers.items inside.chosen limit old c.args.self.now =
    record { inside = omega (arith, inside.buffers.ok.0); is = c.index_mut.ensures.value; all = c.self.invariant.1.0; seen = c.self.view_is } in
    answer_told (Advances c.args.max_lines) inside.buffers.items inside.chosen limit old c.advance.new.self c.args.self.now _ chosen c.advance.result refl refl refl c.advance.ensures.advances

pub returns-clause-state : goal.returns-clause-state
returns-clause-state c =
    let inside = c.self.inside in
    let old = c.index_mut.result.now in
    let limit = limit_in inside.buffers.items inside.chosen in
    let chosen : Chosen inside.buffers.items inside.chosen limit old c.args.self.now =
    record { inside = omega (arith, inside.buffers.ok.0); is = c.index_mut.ensures.value; all = c.self.invariant.1.0; seen = c.self.view_is } in
    advanced_state c.args.max_lines inside.buffers.items inside.chosen limit old c.advance.new.self c.args.self.now chosen c.advance.result c.advance.ensures.advances c.advance.ensures.nothing
