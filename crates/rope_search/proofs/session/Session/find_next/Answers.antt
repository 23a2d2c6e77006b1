use Rattle.std.proofs.Common.{Err, ap, arith}
use Rattle.std.proofs.lemmas.Result.{err_from_is_err_and}
use Rattle.rope_search.specs.Session.{limit_in}
use Rattle.rope_search.proofs.SessionLemmas.{Chosen}
use Rattle.rope_search.proofs.NextLemmas.{Step-next, Step-next_err}
use Rattle.rope_search.proofs.session.Session.find_next.Goals as goal

pub returns-in_err-found-clause-step : goal.returns-in_err-found-clause-step
returns-in_err-found-clause-step c =
    let inside = c.self.inside in
    let old = c.index_mut.result.now in
    let limit = limit_in inside.buffers.items inside.chosen in
    let chosen : Chosen inside.buffers.items inside.chosen limit old c.args.self.now =
    record { inside = omega (arith, inside.buffers.ok.0); is = c.index_mut.ensures.value; all = c.self.invariant.1.0; seen = c.self.view_is } in
    let p = err_from_is_err_and c.from_residual.result c.from_residual.ensures.1 in
    let told = c.in_err-found.ensures in
    rw (p.1, p.2) (Step-next_err inside.buffers.items inside.chosen limit old c.next_from.new.self c.args.self.now c.args.from c.in_err-found.field-0.0 chosen told.same told.fault
    (λ e. told.nothing.0 (ap Err e)) (λ e. told.range.0 (ap Err e)))

pub returns-clause-step : goal.returns-clause-step
returns-clause-step c =
    let inside = c.self.inside in
    let old = c.index_mut.result.now in
    let limit = limit_in inside.buffers.items inside.chosen in
    let chosen : Chosen inside.buffers.items inside.chosen limit old c.args.self.now =
    record { inside = omega (arith, inside.buffers.ok.0); is = c.index_mut.ensures.value; all = c.self.invariant.1.0; seen = c.self.view_is } in
    let told = c.in_ok-found.ensures in
    rw c.reply_for.ensures (Step-next inside.buffers.items inside.chosen limit old c.next_from.new.self c.args.self.now c.args.from c.in_ok-found.found chosen told.same told.found)
