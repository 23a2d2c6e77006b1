use Rattle.std.proofs.Common.{◌≡◌, ℕ, ◌≤◌, Err, sym, ap, subst, ◌∙◌}
use Rattle.std.proofs.lemmas.Result.{err_from_is_err_and}
use Rattle.std.specs.Str.{IsCharBoundary}
use Rattle.ropey.specs.Chunks.{text_of}
use Rattle.rope_search_reports.specs.Position.{IsAt, line_at, position, text_end}
use Rattle.rope_search_reports.specs.Text.{IsText, bytes_of}
use Rattle.rope_search.specs.Encodings.{IsAtIn, column_in}
use Rattle.rope_search.specs.Session.{current_text}
use Rattle.rope_search.proofs.PartLaws.{cutting_scalars}
use Rattle.rope_search.proofs.EncodingLemmas.{position-at}
use Rattle.rope_search.proofs.buffer.Buffer.position_in.Goals as goal

pub returns-in_default-clause-range : goal.returns-in_default-clause-range
returns-in_default-clause-range c = λ place at.
    let text = text_of c.text-text.result.now in
    let there : IsAtIn c.args.encoding text c.args.line c.args.column place =
    subst (λ t. IsAtIn c.args.encoding t c.args.line c.args.column place) (sym c.text-text.ensures.text) at in
    let found = c.place_behind.ensures.only place there in
    c.in_default.not-Some place found

pub returns-in_err-position-clause-range : goal.returns-in_err-position-clause-range
returns-in_err-position-clause-range c =
    let p = err_from_is_err_and c.from_residual.result c.from_residual.ensures.1 in
    rw (p.1) (λ place at.
    let text = text_of c.text-text.result.now in
    let there : IsAtIn c.args.encoding text c.args.line c.args.column place =
    subst (λ t. IsAtIn c.args.encoding t c.args.line c.args.column place) (sym c.text-text.ensures.text) at in
    let found = c.place_behind.ensures.only place there in
    let same : c.in-Some.place ≡ place = let is = c.in-Some.is in cc in
    c.in_err-position.ensures.range.0 (ap Err c.in_err-position.ensures.fault)
    (subst (IsCharBoundary (bytes_of (current_text c.args.self.now.state))) (sym same) at.boundary))

pub returns-in_err-byte_of-clause-range : goal.returns-in_err-byte_of-clause-range
returns-in_err-byte_of-clause-range c =
    let p = err_from_is_err_and c.from_residual-in_err-byte_of.result c.from_residual-in_err-byte_of.ensures.1 in
    rw (p.1) (λ place at.
    let text = text_of c.text-text.result.now in
    let there : IsAtIn c.args.encoding text c.args.line c.args.column place =
    subst (λ t. IsAtIn c.args.encoding t c.args.line c.args.column place) (sym c.text-text.ensures.text) at in
    let found = c.place_behind.ensures.only place there in
    let same : c.in-Some.place ≡ place = let is = c.in-Some.is in cc in
    let told = c.in_ok-position.position in
    let spot : (told.line, told.column) ≡ position (current_text c.args.self.now.state) place =
    c.in_ok-position.ensures.position ∙ ap (position (current_text c.args.self.now.state)) same in
    c.in_err-byte_of.ensures.range place (position-at c.args.encoding (current_text c.args.self.now.state) c.args.line c.args.column place (told.line, told.column) at spot))

pub returns-then-position-line-clause-range : goal.returns-then-position-line-clause-range
returns-then-position-line-clause-range c = λ place at.
    let text = text_of c.text-text.result.now in
    let there : IsAtIn c.args.encoding text c.args.line c.args.column place =
    subst (λ t. IsAtIn c.args.encoding t c.args.line c.args.column place) (sym c.text-text.ensures.text) at in
    let found = c.place_behind.ensures.only place there in
    let same : c.in-Some.place ≡ place = let is = c.in-Some.is in cc in
    let told = c.in_ok-position.position in
    let spot : (told.line, told.column) ≡ position (current_text c.args.self.now.state) place =
    c.in_ok-position.ensures.position ∙ ap (position (current_text c.args.self.now.state)) same in
    c.if-position-line.true (ap (λ (p : ℕ × ℕ). p.0) spot ∙ sym at.line_is)

pub returns-then-branch-place-clause-range : goal.returns-then-branch-place-clause-range
returns-then-branch-place-clause-range c = λ place at.
    let text = text_of c.text-text.result.now in
    let there : IsAtIn c.args.encoding text c.args.line c.args.column place =
    subst (λ t. IsAtIn c.args.encoding t c.args.line c.args.column place) (sym c.text-text.ensures.text) at in
    let found = c.place_behind.ensures.only place there in
    let same : c.in-Some.place ≡ place = let is = c.in-Some.is in cc in
    let told = c.in_ok-position.position in
    let here = current_text c.args.self.now.state in
    let spot : (told.line, told.column) ≡ position here place = c.in_ok-position.ensures.position ∙ ap (position here) same in
    let is_text : IsText here = subst IsText c.text-text.ensures.text (cutting_scalars c.text-text.result.now c.len_bytes.ensures.cut.cut) in
    let one = c.one_place.ensures here (told.line, told.column) c.in_ok-byte_of.field-0 place is_text c.in_ok-byte_of.ensures.at
    (position-at c.args.encoding here c.args.line c.args.column place (told.line, told.column) at spot) in
    c.if-branch-place.true (one ∙ sym same)

pub returns-clause-position : goal.returns-clause-position
returns-clause-position c =
    let text = current_text c.args.self.now.state in
    let e = c.args.encoding in
    let place = c.in-Some.place in
    let told = c.in_ok-position.position in
    let line_is : c.args.line ≡ line_at text place = sym c.if-position-line.false ∙ ap (λ (p : ℕ × ℕ). p.0) c.in_ok-position.ensures.position in
    let there : IsAt text (told.line, told.column) place = subst (IsAt text (told.line, told.column)) c.if-branch-place.false c.in_ok-byte_of.ensures.at in
    let column : c.args.line ≡ line_at text place → c.args.column ≡ column_in e text place =
    subst (λ t. c.args.line ≡ line_at t place → c.args.column ≡ column_in e t place) c.text-text.ensures.text c.in-Some.ensures.column in (
      place,
      record {
        boundary = there.boundary;
        line_is = line_is;
        column_is = column line_is;
        within = subst (λ l. place ≤ text_end text l) c.if-position-line.false there.within;
      },
      there,
    )
