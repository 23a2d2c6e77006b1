use Rattle.std.proofs.Common.{◌≡◌, ◌<◌, Err, IsUtf8, ap, arith, inr, length, refl, subst, sym, ◌∙◌}
use Rattle.std.specs.Prelude.{OnOk}
use Rattle.std.specs.Str.{chars}
use Rattle.rope_search.specs.Laws.{HoldsTexts}
use Rattle.rope_search.specs.Pending.{Begins}
use Rattle.rope_search.specs.Session.{LimitedBuffer, limit_in}
use Rattle.rope_search.proofs.HoldLemmas.{AllKept, kept_set, kept_limit, kept_holds}
use Rattle.rope_search.proofs.PendingSessions.{begin_accepted, begin_refused, begun_limit, begun_state, done_told, still_state}
use Rattle.rope_search.proofs.RefusalLaws.{refused_pattern_utf8}
use Rattle.rope_search.proofs.SessionLemmas.{Chosen}
use Rattle.rope_search.proofs.session.Session.begin_pattern.Goals as goal

pub invariant_of-self : goal.invariant_of-self
invariant_of-self c =
    let items = c.self.inside.buffers.items in
    let k = c.self.inside.chosen in
    let old = c.index_mut.result.now in
    let new = c.begin_pattern.new.self in
    let told = c.begin_pattern.ensures in
    let inside : k < length items = omega (arith, c.self.inside.buffers.ok.0) in
    let kept : AllKept items (limit_in items k) = record { limits = c.self.invariant.1.0; texts = c.self.invariant.1.1 } in
    let held = kept_holds items k old inside c.index_mut.ensures.value kept in
    let holds : HoldsTexts new.state = subst HoldsTexts (sym (begun_state (chars c.in-Ok.pattern.now) old new c.begin_pattern.result told.ok told.err)) held in
    let all = kept_set items k new inside
    (begun_limit (chars c.in-Ok.pattern.now) old new c.begin_pattern.result told.ok told.err ∙ kept_limit items k old inside c.index_mut.ensures.value kept) holds kept in
    (c.self.invariant.0, (all.limits, all.texts))

pub returns-clause-begins : goal.returns-clause-begins
returns-clause-begins c =
    let inside = c.self.inside in
    let old = c.index_mut.result.now in
    let limit = limit_in inside.buffers.items inside.chosen in
    let chosen : Chosen inside.buffers.items inside.chosen limit old c.args.self.now =
    record { inside = omega (arith, inside.buffers.ok.0); is = c.index_mut.ensures.value; all = c.self.invariant.1.0; seen = c.self.view_is } in
    let told : OnOk c.begin_pattern.result (Begins (chars c.args.pattern.now) old c.begin_pattern.new.self) =
    subst (λ t. OnOk c.begin_pattern.result (Begins (chars t) old c.begin_pattern.new.self)) c.in-Ok.ensures.cases.0 c.begin_pattern.ensures.ok in
    done_told (Begins (chars c.args.pattern.now)) inside.buffers.items inside.chosen limit old c.begin_pattern.new.self c.args.self.now _ chosen c.begin_pattern.result refl refl refl told

pub returns-clause-accepted : goal.returns-clause-accepted
returns-clause-accepted c =
    begin_accepted c.one_of_three.ensures c.args.pattern.now c.in-Ok.pattern.now c.args.self.now c.begin_pattern.result c.in-Ok.ensures.cases.0 c.in-Ok.ensures.cases.1
    c.begin_pattern.ensures.too_long c.begin_pattern.ensures.is_pattern

pub returns-clause-refused : goal.returns-clause-refused
returns-clause-refused c =
    begin_refused c.one_of_three.ensures c.args.pattern.now c.in-Ok.pattern.now c.args.self.now c.begin_pattern.result c.in-Ok.ensures.cases.0 c.in-Ok.ensures.cases.1
    c.begin_pattern.ensures.fault c.begin_pattern.ensures.too_much c.begin_pattern.ensures.no_pattern

pub returns-clause-state : goal.returns-clause-state
returns-clause-state c =
    let inside = c.self.inside in
    let old = c.index_mut.result.now in
    let limit = limit_in inside.buffers.items inside.chosen in
    let chosen : Chosen inside.buffers.items inside.chosen limit old c.args.self.now =
    record { inside = omega (arith, inside.buffers.ok.0); is = c.index_mut.ensures.value; all = c.self.invariant.1.0; seen = c.self.view_is } in
    still_state inside.buffers.items inside.chosen limit old c.begin_pattern.new.self c.args.self.now chosen
    (begun_state (chars c.in-Ok.pattern.now) old c.begin_pattern.new.self c.begin_pattern.result c.begin_pattern.ensures.ok c.begin_pattern.ensures.err)

pub returns-in_default-clause-refused : goal.returns-in_default-clause-refused
returns-in_default-clause-refused c = inr (refused_pattern_utf8 c.args.self.now.limit c.args.self.now.state c.args.pattern.now c.in_default.ensures.cases.0)
