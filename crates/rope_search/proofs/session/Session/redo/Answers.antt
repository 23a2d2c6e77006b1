use Rattle.std.proofs.Common.{ap, ◌+◌, ◌<◌, ◌≤◌, length, inl, inr, refl, arith}
use Rattle.std.proofs.lemmas.Bool.{cases_lt}
use Rattle.rope_search_reports.specs.Ticks.{Ticks}
use Rattle.rope_search.specs.Session.{limit_in}
use Rattle.rope_search.proofs.SessionLemmas.{Chosen}
use Rattle.rope_search.proofs.EditLemmas.{Step-redone, rows_redone}
use Rattle.rope_search.proofs.ChangedLemmas.{tells}
use Rattle.rope_search.specs.Order.{RedoEdit}
use Rattle.rope_search.specs.TextsKept.{KeepsOf}
use Rattle.rope_search.proofs.KeptLemmas.{keeps, chosen-there}
use Rattle.rope_search.specs.Histories.{rows_on}
use Rattle.rope_search.proofs.session.Session.redo.Goals as goal

pub returns-clause-step : goal.returns-clause-step
returns-clause-step c =
    let inside = c.self.inside in
    let old = c.index_mut.result.now in
    let told = c.in_ok-redo.ensures in
    let chosen : Chosen inside.buffers.items inside.chosen (limit_in inside.buffers.items inside.chosen) old c.args.self.now =
    record { inside = omega (arith, inside.buffers.ok.0); is = c.index_mut.ensures.value; all = c.self.invariant.1.0; seen = c.self.view_is } in
    let more : length old.state.texts ≤ old.state.current + 1 → ⊥ = λ none. absurd (let e = told.nothing.1 none in cc) in
    let some : old.state.current + 1 < length old.state.texts =
    elim (cases_lt (old.state.current + 1) (length old.state.texts)) [ inl below ↦ below | inr above ↦ absurd (more (omega arith)) ] in
    Step-redone inside.buffers.items inside.chosen (limit_in inside.buffers.items inside.chosen) old c.redo.new.self c.args.self.now chosen some told.ok

pub returns-in_err-redo-clause-rows : goal.returns-in_err-redo-clause-rows
returns-in_err-redo-clause-rows c = λ cost costs.
    let inside = c.self.inside in
    let old = c.index_mut.result.now in
    let told = c.redo.ensures in
    let chosen : Chosen inside.buffers.items inside.chosen (limit_in inside.buffers.items inside.chosen) old c.args.self.now =
    record { inside = omega (arith, inside.buffers.ok.0); is = c.index_mut.ensures.value; all = c.self.invariant.1.0; seen = c.self.view_is } in
    rows_redone inside.buffers.items inside.chosen (limit_in inside.buffers.items inside.chosen) old c.args.self.now c.redo.new.tick.count c.args.tick.now.count chosen
    (λ none. omega (arith, ap (λ (t : Ticks). t.count) (told.unsearched (told.nothing.1 none)))) told.rows.made cost costs

pub returns-clause-rows : goal.returns-clause-rows
returns-clause-rows c = λ cost costs.
    let inside = c.self.inside in
    let old = c.index_mut.result.now in
    let told = c.redo.ensures in
    let chosen : Chosen inside.buffers.items inside.chosen (limit_in inside.buffers.items inside.chosen) old c.args.self.now =
    record { inside = omega (arith, inside.buffers.ok.0); is = c.index_mut.ensures.value; all = c.self.invariant.1.0; seen = c.self.view_is } in
    rows_redone inside.buffers.items inside.chosen (limit_in inside.buffers.items inside.chosen) old c.args.self.now c.redo.new.tick.count c.args.tick.now.count chosen
    (λ none. omega (arith, ap (λ (t : Ticks). t.count) (told.unsearched (told.nothing.1 none)))) told.rows.made cost costs

pub returns-clause-changed : goal.returns-clause-changed
returns-clause-changed c =
    let inside = c.self.inside in
    let old = c.index_mut.result.now in
    let limit = limit_in inside.buffers.items inside.chosen in
    let chosen : Chosen inside.buffers.items inside.chosen limit old c.args.self.now =
    record { inside = omega (arith, inside.buffers.ok.0); is = c.index_mut.ensures.value; all = c.self.invariant.1.0; seen = c.self.view_is } in
    tells RedoEdit inside.buffers.items inside.chosen limit old c.redo.new.self c.args.self.now chosen c.in_ok-redo.ensures.changed tt

pub returns-clause-texts : goal.returns-clause-texts
returns-clause-texts c =
    let inside = c.self.inside in
    let old = c.index_mut.result.now in
    let limit = limit_in inside.buffers.items inside.chosen in
    let chosen : Chosen inside.buffers.items inside.chosen limit old c.args.self.now =
    record { inside = omega (arith, inside.buffers.ok.0); is = c.index_mut.ensures.value; all = c.self.invariant.1.0; seen = c.self.view_is } in
    let told = c.in_ok-redo.ensures in
    keeps (KeepsOf RedoEdit) inside.buffers.items inside.chosen limit old c.redo.new.self c.args.self.now _ chosen refl refl refl (told.changes, told.text_changes, told.forward, told.added, told.pending)

pub returns-in_err-redo-clause-few : goal.returns-in_err-redo-clause-few
returns-in_err-redo-clause-few c =
    let inside = c.self.inside in
    let old = c.index_mut.result.now in
    let limit = limit_in inside.buffers.items inside.chosen in
    let chosen : Chosen inside.buffers.items inside.chosen limit old c.args.self.now =
    record { inside = omega (arith, inside.buffers.ok.0); is = c.index_mut.ensures.value; all = c.self.invariant.1.0; seen = c.self.view_is } in
    omega (arith, c.redo.ensures.on, ap rows_on (chosen-there inside.buffers.items inside.chosen limit old c.args.self.now chosen))

pub returns-clause-few : goal.returns-clause-few
returns-clause-few c =
    let inside = c.self.inside in
    let old = c.index_mut.result.now in
    let limit = limit_in inside.buffers.items inside.chosen in
    let chosen : Chosen inside.buffers.items inside.chosen limit old c.args.self.now =
    record { inside = omega (arith, inside.buffers.ok.0); is = c.index_mut.ensures.value; all = c.self.invariant.1.0; seen = c.self.view_is } in
    omega (arith, c.redo.ensures.on, ap rows_on (chosen-there inside.buffers.items inside.chosen limit old c.args.self.now chosen))
