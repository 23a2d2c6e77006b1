use Rattle.std.proofs.Common.{◌<◌, inl, inr, length, refl, sym, ap, subst, ◌∙◌, arith}
use Rattle.std.specs.Str.{chars}
use Rattle.rope_search_reports.specs.Text.{IsText}
use Rattle.rope_search.specs.ListedReplacing.{RowsOfListed}
use Rattle.rope_search.specs.Session.{limit_in}
use Rattle.rope_search.proofs.HoldLemmas.{AllKept, kept_holds, kept_limit, kept_set}
use Rattle.rope_search.proofs.ListedSessions.{holds-listed, listed-broken, listed-step, pattern-there, rows-there, session-err, tells-listed, texts-listed}
use Rattle.rope_search.proofs.SessionLemmas.{Chosen}
use Rattle.rope_search.proofs.TextLemmas.{Encodes-chars}
use Rattle.rope_search.proofs.session.Session.replace_listed.Goals as goal

pub invariant_of-self : goal.invariant_of-self
invariant_of-self c =
    let items = c.self.inside.buffers.items in
    let k = c.self.inside.chosen in
    let old = c.index_mut.result.now in
    let new = c.replace_listed.new.self in
    let told = c.replace_listed.ensures in
    let inside : k < length items = omega (arith, c.self.inside.buffers.ok.0) in
    let kept : AllKept items (limit_in items k) = record { limits = c.self.invariant.1.0; texts = c.self.invariant.1.1 } in
    let held = kept_holds items k old inside c.index_mut.ensures.value kept in
    let is = subst (λ t. IsText (chars t)) (sym c.in-Ok.ensures.cases.0) (Encodes-chars c.args.template.now c.in-Ok.ensures.cases.1).scalars in
    let holds = holds-listed c.line_replaced_is_text.ensures c.args.from_line c.args.to_line (chars c.in-Ok.template.now) old new is held c.replace_listed.result told.ok told.err in
    let all = kept_set items k new inside (told.limit ∙ kept_limit items k old inside c.index_mut.ensures.value kept) holds kept in
    (c.self.invariant.0, (all.limits, all.texts))

pub returns-in_default-clause-step : goal.returns-in_default-clause-step
returns-in_default-clause-step c =
    listed-broken c.args.self.now.limit c.args.self.now.state c.buffer.result.now.state c.args.from_line c.args.to_line c.args.template.now c.nothing_or.result (sym c.buffer.ensures.state) c.in_default.ensures.cases.0 c.nothing_or.ensures

pub returns-clause-step : goal.returns-clause-step
returns-clause-step c =
    let inside = c.self.inside in
    let old = c.index_mut.result.now in
    let limit = limit_in inside.buffers.items inside.chosen in
    let chosen : Chosen inside.buffers.items inside.chosen limit old c.args.self.now =
    record { inside = omega (arith, inside.buffers.ok.0); is = c.index_mut.ensures.value; all = c.self.invariant.1.0; seen = c.self.view_is } in
    let told = c.replace_listed.ensures in
    listed-step inside.buffers.items inside.chosen limit old c.replace_listed.new.self c.args.self.now chosen c.args.from_line c.args.to_line c.args.template.now (chars c.in-Ok.template.now)
    (ap chars c.in-Ok.ensures.cases.0) c.in-Ok.ensures.cases.1 c.replace_listed.result told.ok told.nothing told.size told.fits told.fault told.err

pub returns-clause-changed : goal.returns-clause-changed
returns-clause-changed c =
    let inside = c.self.inside in
    let old = c.index_mut.result.now in
    let limit = limit_in inside.buffers.items inside.chosen in
    let chosen : Chosen inside.buffers.items inside.chosen limit old c.args.self.now =
    record { inside = omega (arith, inside.buffers.ok.0); is = c.index_mut.ensures.value; all = c.self.invariant.1.0; seen = c.self.view_is } in
    let told = c.replace_listed.ensures in
    rw (ap chars (sym c.in-Ok.ensures.cases.0))
    (tells-listed inside.buffers.items inside.chosen limit old c.replace_listed.new.self c.args.self.now chosen c.args.from_line c.args.to_line (chars c.in-Ok.template.now)
    c.replace_listed.result told.changed told.added)

pub returns-clause-texts : goal.returns-clause-texts
returns-clause-texts c =
    let inside = c.self.inside in
    let old = c.index_mut.result.now in
    let limit = limit_in inside.buffers.items inside.chosen in
    let chosen : Chosen inside.buffers.items inside.chosen limit old c.args.self.now =
    record { inside = omega (arith, inside.buffers.ok.0); is = c.index_mut.ensures.value; all = c.self.invariant.1.0; seen = c.self.view_is } in
    let told = c.replace_listed.ensures in
    rw (ap chars (sym c.in-Ok.ensures.cases.0))
    (texts-listed inside.buffers.items inside.chosen limit old c.replace_listed.new.self c.args.self.now chosen c.args.from_line c.args.to_line _ (chars c.in-Ok.template.now)
    c.replace_listed.result refl refl refl told.kept told.text_changes told.pending)

pub returns-clause-err : goal.returns-clause-err
returns-clause-err c =
    let inside = c.self.inside in
    let old = c.index_mut.result.now in
    let limit = limit_in inside.buffers.items inside.chosen in
    let chosen : Chosen inside.buffers.items inside.chosen limit old c.args.self.now =
    record { inside = omega (arith, inside.buffers.ok.0); is = c.index_mut.ensures.value; all = c.self.invariant.1.0; seen = c.self.view_is } in
    session-err inside.buffers.items inside.chosen old c.replace_listed.new.self c.args.self.now chosen c.replace_listed.result c.replace_listed.ensures.err

pub returns-clause-rows : goal.returns-clause-rows
returns-clause-rows c = λ n rows.
    let inside = c.self.inside in
    let old = c.index_mut.result.now in
    let limit = limit_in inside.buffers.items inside.chosen in
    let chosen : Chosen inside.buffers.items inside.chosen limit old c.args.self.now =
    record { inside = omega (arith, inside.buffers.ok.0); is = c.index_mut.ensures.value; all = c.self.invariant.1.0; seen = c.self.view_is } in
    c.replace_listed.ensures.rows n
    (subst (λ t. RowsOfListed old.state c.args.from_line c.args.to_line (chars t) n) (sym c.in-Ok.ensures.cases.0)
    (rows-there inside.buffers.items inside.chosen limit old c.replace_listed.new.self c.args.self.now chosen c.args.from_line c.args.to_line (chars c.args.template.now) n rows))

pub returns-clause-unsearched : goal.returns-clause-unsearched
returns-clause-unsearched c = λ why.
    let inside = c.self.inside in
    let old = c.index_mut.result.now in
    let limit = limit_in inside.buffers.items inside.chosen in
    let chosen : Chosen inside.buffers.items inside.chosen limit old c.args.self.now =
    record { inside = omega (arith, inside.buffers.ok.0); is = c.index_mut.ensures.value; all = c.self.invariant.1.0; seen = c.self.view_is } in
    let told = c.replace_listed.ensures in
    elim why [
      | inl none ↦
          told.nothing_unsearched (told.nothing.1
          (pattern-there inside.buffers.items inside.chosen limit old c.replace_listed.new.self c.args.self.now chosen c.args.from_line c.args.to_line none))
      | inr broken ↦ absurd (broken c.in-Ok.ensures.cases.1)
    ]
