use Rattle.std.proofs.Common.{sym, subst, arith}
use Rattle.rope_search.specs.Session.{limit_in}
use Rattle.rope_search.specs.TextMatches.{AnswersNextAll}
use Rattle.rope_search.proofs.GroupsAtLemmas.{session_kept}
use Rattle.rope_search.proofs.SessionLemmas.{Chosen, Chosen-state}
use Rattle.rope_search.proofs.session.Session.next_all.Goals as goal

pub returns-clause-answer : goal.returns-clause-answer
returns-clause-answer c =
    let inside = c.self.inside in
    let old = c.index_mut.result.now in
    let limit = limit_in inside.buffers.items inside.chosen in
    let chosen : Chosen inside.buffers.items inside.chosen limit old c.args.self.now =
    record { inside = omega (arith, inside.buffers.ok.0); is = c.index_mut.ensures.value; all = c.self.invariant.1.0; seen = c.self.view_is } in
    subst (λ b. AnswersNextAll b c.args.from c.next_all.result c.args.out.now c.next_all.new.out)
    (sym (Chosen-state inside.buffers.items inside.chosen limit old c.args.self.now chosen)) c.next_all.ensures.answer

pub returns-clause-same : goal.returns-clause-same
returns-clause-same c =
    let inside = c.self.inside in
    let old = c.index_mut.result.now in
    let limit = limit_in inside.buffers.items inside.chosen in
    let chosen : Chosen inside.buffers.items inside.chosen limit old c.args.self.now =
    record { inside = omega (arith, inside.buffers.ok.0); is = c.index_mut.ensures.value; all = c.self.invariant.1.0; seen = c.self.view_is } in
    session_kept inside.buffers.items inside.chosen old c.next_all.new.self c.args.self.now chosen c.next_all.ensures.same
