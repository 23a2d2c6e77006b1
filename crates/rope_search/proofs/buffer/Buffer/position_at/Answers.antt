use Rattle.std.proofs.Common.{◌≡◌, ℕ, Err, sym, ap, subst, ◌∙◌}
use Rattle.rope_search_reports.specs.Position.{IsAt}
use Rattle.rope_search_reports.specs.Text.{IsText}
use Rattle.rope_search_reports.proofs.SpotLemmas.{spot-one}
use Rattle.rope_search_reports.proofs.TextPlaces.{places}
use Rattle.rope_search.specs.Session.{current_text}
use Rattle.rope_search.proofs.PartLaws.{cutting_scalars}
use Rattle.rope_search.proofs.buffer.Buffer.position_at.Goals as goal

pub returns-in_default-clause-range : goal.returns-in_default-clause-range
returns-in_default-clause-range c = λ spot there. c.in_default.ensures.range.0 (ap Err c.in_default.ensures.fault) there.boundary

pub returns-in_default-byte_of-clause-range : goal.returns-in_default-byte_of-clause-range
returns-in_default-byte_of-clause-range c = λ spot there.
    let text = current_text c.args.self.now.state in
    c.in_default-byte_of.ensures.range c.args.byte_idx
    (subst (λ s. IsAt text s c.args.byte_idx) (there.same ∙ sym c.in-Ok.ensures.position) there)

pub returns-then-there-byte_idx-clause-range : goal.returns-then-there-byte_idx-clause-range
returns-then-there-byte_idx-clause-range c = λ spot there.
    let text = current_text c.args.self.now.state in
    let scalars : IsText text = subst IsText c.text.ensures.text (cutting_scalars c.text.result.now c.len_bytes.ensures.cut.cut) in
    let told = c.in-Ok.position in
    c.if-there-byte_idx.true (spot-one places text scalars (told.line, told.column) c.in-Ok-byte_of.there c.args.byte_idx c.in-Ok-byte_of.ensures.at
    (subst (λ s. IsAt text s c.args.byte_idx) (there.same ∙ sym c.in-Ok.ensures.position) there))

pub returns-clause-at : goal.returns-clause-at
returns-clause-at c =
    let told = c.in-Ok.position in
    subst (IsAt (current_text c.args.self.now.state) (told.line, told.column)) c.if-there-byte_idx.false c.in-Ok-byte_of.ensures.at
