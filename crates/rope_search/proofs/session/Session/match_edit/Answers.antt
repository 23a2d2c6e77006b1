use Rattle.std.proofs.Common.{sym, subst, arith}
use Rattle.std.specs.Str.{chars}
use Rattle.rope_search.specs.MatchEdits.{AnswersEdit, SearchesForGroups}
use Rattle.rope_search.specs.Session.{chosen_buffer, limit_in}
use Rattle.rope_search.proofs.GroupsAtLemmas.{session_kept}
use Rattle.rope_search.proofs.SessionLemmas.{Chosen, Chosen-limit, Chosen-state}
use Rattle.rope_search.proofs.session.Session.match_edit.Goals as goal

pub returns-clause-answer : goal.returns-clause-answer
returns-clause-answer c =
    let inside = c.self.inside in
    let old = c.index_mut.result.now in
    let limit = limit_in inside.buffers.items inside.chosen in
    let chosen : Chosen inside.buffers.items inside.chosen limit old c.args.self.now =
    record { inside = omega (arith, inside.buffers.ok.0); is = c.index_mut.ensures.value; all = c.self.invariant.1.0; seen = c.self.view_is } in
    let template = chars c.args.template.now in
    subst (λ n. AnswersEdit n (chosen_buffer c.args.self.now.state) c.args.line c.args.number template c.match_edit.result)
    (Chosen-limit inside.buffers.items inside.chosen limit old c.args.self.now chosen)
    (subst (λ b. AnswersEdit old.limit b c.args.line c.args.number template c.match_edit.result)
    (sym (Chosen-state inside.buffers.items inside.chosen limit old c.args.self.now chosen)) c.match_edit.ensures.answer)

pub returns-clause-same : goal.returns-clause-same
returns-clause-same c =
    let inside = c.self.inside in
    let old = c.index_mut.result.now in
    let limit = limit_in inside.buffers.items inside.chosen in
    let chosen : Chosen inside.buffers.items inside.chosen limit old c.args.self.now =
    record { inside = omega (arith, inside.buffers.ok.0); is = c.index_mut.ensures.value; all = c.self.invariant.1.0; seen = c.self.view_is } in
    session_kept inside.buffers.items inside.chosen old c.match_edit.new.self c.args.self.now chosen c.match_edit.ensures.same

pub returns-clause-searches : goal.returns-clause-searches
returns-clause-searches c =
    let inside = c.self.inside in
    let old = c.index_mut.result.now in
    let limit = limit_in inside.buffers.items inside.chosen in
    let chosen : Chosen inside.buffers.items inside.chosen limit old c.args.self.now =
    record { inside = omega (arith, inside.buffers.ok.0); is = c.index_mut.ensures.value; all = c.self.invariant.1.0; seen = c.self.view_is } in
    subst (λ b. SearchesForGroups b c.args.line c.args.number (chars c.args.template.now) c.args.tick.now c.match_edit.new.tick)
    (sym (Chosen-state inside.buffers.items inside.chosen limit old c.args.self.now chosen)) c.match_edit.ensures.searches
