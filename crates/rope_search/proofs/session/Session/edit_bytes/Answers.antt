use Rattle.std.proofs.Common.{◌≡◌, ◌≤◌, refl, sym, ap, subst, ◌∙◌, arith}
use Rattle.rope_search_reports.specs.Text.{IsText}
use Rattle.rope_search_reports.specs.declared.positions.Position.{Position}
use Rattle.rope_search.specs.ByteEdits.{AreAtBytes}
use Rattle.rope_search.specs.Changed.{TellsAfter}
use Rattle.rope_search.specs.Cost.{SearchesFor}
use Rattle.rope_search.specs.Order.{EditText}
use Rattle.rope_search.specs.Session.{BufferState, chosen_buffer, current_text}
use Rattle.rope_search.specs.Step.{Step}
use Rattle.rope_search.specs.TextsKept.{KeepsAfter}
use Rattle.rope_search.proofs.ByteEditLemmas.{of-any, refused-backward}
use Rattle.rope_search.proofs.PartLaws.{cutting_scalars}
use Rattle.rope_search.proofs.session.Session.edit_bytes.Goals as goal

pub returns-in_default-clause-step : goal.returns-in_default-clause-step
returns-in_default-clause-step c = λ start stop there.
    absurd (c.in_default.ensures.range start stop (subst (λ (b : BufferState). AreAtBytes (current_text b) c.args.from c.args.to start stop) (sym c.buffer-2.ensures.state) there))

pub returns-in_default-clause-searches : goal.returns-in_default-clause-searches
returns-in_default-clause-searches c = λ start stop there.
    absurd (c.in_default.ensures.range start stop (subst (λ (b : BufferState). AreAtBytes (current_text b) c.args.from c.args.to start stop) (sym c.buffer-2.ensures.state) there))

pub returns-in_default-clause-changed : goal.returns-in_default-clause-changed
returns-in_default-clause-changed c = λ start stop there. refl

pub returns-in_default-clause-kept : goal.returns-in_default-clause-kept
returns-in_default-clause-kept c = λ start stop there. refl

pub returns-then-to-from-clause-step : goal.returns-then-to-from-clause-step
returns-then-to-from-clause-step c = λ start stop there.
    let text = current_text (chosen_buffer c.args.self.now.state) in
    let scalars : IsText text =
    subst (λ (b : BufferState). IsText (current_text b)) c.buffer.ensures.state (subst IsText c.text.ensures.text (cutting_scalars c.text.result.now c.len_bytes.ensures.cut.cut)) in
    (refused-backward c.args.self.now.limit c.args.self.now.state c.args.from c.args.to start stop c.args.text.now scalars there c.if-to-from.true, refl)

pub returns-then-to-from-clause-searches : goal.returns-then-to-from-clause-searches
returns-then-to-from-clause-searches c = λ start stop there. record {
  rows = λ cost costs. omega arith;
  wholes = omega arith;
  never_fall = record { rows = omega arith; wholes = omega arith };
}

pub returns-then-to-from-clause-changed : goal.returns-then-to-from-clause-changed
returns-then-to-from-clause-changed c = λ start stop there. refl

pub returns-then-to-from-clause-kept : goal.returns-then-to-from-clause-kept
returns-then-to-from-clause-kept c = λ start stop there. refl

pub returns-clause-step : goal.returns-clause-step
returns-clause-step c = λ start stop there.
    let told : Position × Position = (c.in-Ok.start, c.in-Ok.stop) in
    let text = current_text (chosen_buffer c.args.self.now.state) in
    let own : AreAtBytes text c.args.from c.args.to told.0 told.1 =
    subst (λ (b : BufferState). AreAtBytes (current_text b) c.args.from c.args.to told.0 told.1) c.buffer-2.ensures.state c.in-Ok.ensures.at in
    of-any text c.args.from c.args.to told.0 told.1 start stop
    (λ p q. Step c.args.self.now.limit c.args.self.now.state (EditText p q c.args.text.now) c.apply.result c.apply.new.self.state) own there
    (c.apply.ensures.step (EditText told.0 told.1 c.args.text.now) (refl, refl, refl))

pub returns-clause-searches : goal.returns-clause-searches
returns-clause-searches c = λ start stop there.
    let told : Position × Position = (c.in-Ok.start, c.in-Ok.stop) in
    let text = current_text (chosen_buffer c.args.self.now.state) in
    let own : AreAtBytes text c.args.from c.args.to told.0 told.1 =
    subst (λ (b : BufferState). AreAtBytes (current_text b) c.args.from c.args.to told.0 told.1) c.buffer-2.ensures.state c.in-Ok.ensures.at in
    of-any text c.args.from c.args.to told.0 told.1 start stop
    (λ p q. SearchesFor c.args.self.now.limit c.args.self.now.state (EditText p q c.args.text.now) c.args.tick.now c.apply.new.tick) own there
    (c.apply.ensures.searches (EditText told.0 told.1 c.args.text.now) (refl, refl, refl))

pub returns-clause-changed : goal.returns-clause-changed
returns-clause-changed c = λ start stop there.
    let told : Position × Position = (c.in-Ok.start, c.in-Ok.stop) in
    let text = current_text (chosen_buffer c.args.self.now.state) in
    let own : AreAtBytes text c.args.from c.args.to told.0 told.1 =
    subst (λ (b : BufferState). AreAtBytes (current_text b) c.args.from c.args.to told.0 told.1) c.buffer-2.ensures.state c.in-Ok.ensures.at in
    of-any text c.args.from c.args.to told.0 told.1 start stop
    (λ p q. TellsAfter c.args.self.now.state (EditText p q c.args.text.now) c.apply.result c.apply.new.self.state c.args.self.now.changed c.apply.new.self.changed) own there
    (c.apply.ensures.changed (EditText told.0 told.1 c.args.text.now) (refl, refl, refl))

pub returns-clause-kept : goal.returns-clause-kept
returns-clause-kept c = λ start stop there.
    let told : Position × Position = (c.in-Ok.start, c.in-Ok.stop) in
    let text = current_text (chosen_buffer c.args.self.now.state) in
    let own : AreAtBytes text c.args.from c.args.to told.0 told.1 =
    subst (λ (b : BufferState). AreAtBytes (current_text b) c.args.from c.args.to told.0 told.1) c.buffer-2.ensures.state c.in-Ok.ensures.at in
    of-any text c.args.from c.args.to told.0 told.1 start stop
    (λ p q. KeepsAfter c.args.self.now (EditText p q c.args.text.now) c.apply.result c.apply.new.self) own there
    (c.apply.ensures.kept (EditText told.0 told.1 c.args.text.now) (refl, refl, refl))

pub returns-clause-range : goal.returns-clause-range
returns-clause-range c = λ none.
    let told : Position × Position = (c.in-Ok.start, c.in-Ok.stop) in
    let own = subst (λ (b : BufferState). AreAtBytes (current_text b) c.args.from c.args.to told.0 told.1) c.buffer-2.ensures.state c.in-Ok.ensures.at in
    absurd (none told.0 told.1 own (omega (arith, c.if-to-from.false)))

pub returns-clause-same : goal.returns-clause-same
returns-clause-same c = λ none.
    let told : Position × Position = (c.in-Ok.start, c.in-Ok.stop) in
    let own = subst (λ (b : BufferState). AreAtBytes (current_text b) c.args.from c.args.to told.0 told.1) c.buffer-2.ensures.state c.in-Ok.ensures.at in
    absurd (none told.0 told.1 own (omega (arith, c.if-to-from.false)))

pub returns-clause-unsearched : goal.returns-clause-unsearched
returns-clause-unsearched c = λ none.
    let told : Position × Position = (c.in-Ok.start, c.in-Ok.stop) in
    let own = subst (λ (b : BufferState). AreAtBytes (current_text b) c.args.from c.args.to told.0 told.1) c.buffer-2.ensures.state c.in-Ok.ensures.at in
    absurd (none told.0 told.1 own (omega (arith, c.if-to-from.false)))
