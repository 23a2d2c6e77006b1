use Rattle.std.proofs.Common.{sym, subst, arith}
use Rattle.rope_search.specs.GroupsAt.{AnswersGroups, SearchesRow}
use Rattle.rope_search.specs.Session.{limit_in}
use Rattle.rope_search.proofs.GroupsAtLemmas.{session_kept}
use Rattle.rope_search.proofs.SessionLemmas.{Chosen, Chosen-state}
use Rattle.rope_search.proofs.session.Session.groups_at.Goals as goal

pub returns-clause-answer : goal.returns-clause-answer
returns-clause-answer c =
    let inside = c.self.inside in
    let old = c.index_mut.result.now in
    let limit = limit_in inside.buffers.items inside.chosen in
    let chosen : Chosen inside.buffers.items inside.chosen limit old c.args.self.now =
    record { inside = omega (arith, inside.buffers.ok.0); is = c.index_mut.ensures.value; all = c.self.invariant.1.0; seen = c.self.view_is } in
    subst (λ b. AnswersGroups b c.args.line c.args.number c.groups_at.result) (sym (Chosen-state inside.buffers.items inside.chosen limit old c.args.self.now chosen)) c.groups_at.ensures.answer

pub returns-clause-same : goal.returns-clause-same
returns-clause-same c =
    let inside = c.self.inside in
    let old = c.index_mut.result.now in
    let limit = limit_in inside.buffers.items inside.chosen in
    let chosen : Chosen inside.buffers.items inside.chosen limit old c.args.self.now =
    record { inside = omega (arith, inside.buffers.ok.0); is = c.index_mut.ensures.value; all = c.self.invariant.1.0; seen = c.self.view_is } in
    session_kept inside.buffers.items inside.chosen old c.groups_at.new.self c.args.self.now chosen c.groups_at.ensures.same

pub returns-clause-searches : goal.returns-clause-searches
returns-clause-searches c =
    let inside = c.self.inside in
    let old = c.index_mut.result.now in
    let limit = limit_in inside.buffers.items inside.chosen in
    let chosen : Chosen inside.buffers.items inside.chosen limit old c.args.self.now =
    record { inside = omega (arith, inside.buffers.ok.0); is = c.index_mut.ensures.value; all = c.self.invariant.1.0; seen = c.self.view_is } in
    subst (λ b. SearchesRow b c.args.line c.args.tick.now c.groups_at.new.tick) (sym (Chosen-state inside.buffers.items inside.chosen limit old c.args.self.now chosen)) c.groups_at.ensures.searches
