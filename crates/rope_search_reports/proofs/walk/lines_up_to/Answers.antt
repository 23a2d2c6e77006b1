use Rattle.std.proofs.Common.{◌≡◌, ◌<◌, take, IsUtf8, refl, sym, ap, subst, ◌∙◌, arith}
use Rattle.std.specs.Str.{all_scalars, IsCharBoundary}
use Rattle.std.proofs.lemmas.Str.{IsCharBoundary-from_drop}
use Rattle.ropey.specs.Chunks.{text_of}
use Rattle.ropey.specs.Slices.{slice_text}
use Rattle.rope_search_reports.specs.Text.{bytes_of, line_count}
use Rattle.rope_search_reports.proofs.FinderLemmas.{whole-is}
use Rattle.rope_search_reports.proofs.PlaceLemmas.{rope-scalars}
use Rattle.rope_search_reports.proofs.WalkLemmas.{line-between, up-to, up-to-all}
use Rattle.rope_search_reports.proofs.walk.lines_up_to.Goals as goal

pub returns-then-end-len_lines-clause-lines : goal.returns-then-end-len_lines-clause-lines
returns-then-end-len_lines-clause-lines c =
    (up-to-all (text_of c.args.text.now) (slice_text c.slice.result) c.args.end (omega (arith, c.if-end-len_lines.true, c.len_lines.ensures)) (ap text_of c.slice.ensures ∙ whole-is c.args.text.now)).lines

pub returns-then-end-len_lines-clause-within : goal.returns-then-end-len_lines-clause-within
returns-then-end-len_lines-clause-within c =
    (up-to-all (text_of c.args.text.now) (slice_text c.slice.result) c.args.end (omega (arith, c.if-end-len_lines.true, c.len_lines.ensures)) (ap text_of c.slice.ensures ∙ whole-is c.args.text.now)).within

pub returns-then-end-len_lines-clause-few : goal.returns-then-end-len_lines-clause-few
returns-then-end-len_lines-clause-few c =
    (up-to-all (text_of c.args.text.now) (slice_text c.slice.result) c.args.end (omega (arith, c.if-end-len_lines.true, c.len_lines.ensures)) (ap text_of c.slice.ensures ∙ whole-is c.args.text.now)).few

pub byte_slice-requires : goal.byte_slice-requires
byte_slice-requires c =
    let text = text_of c.args.text.now in
    let own : slice_text c.slice-2.result ≡ text = ap text_of c.slice-2.ensures ∙ whole-is c.args.text.now in
    let below : c.args.end < line_count text = omega (arith, c.requires, c.if-end-len_lines.false, c.len_lines.ensures) in
    let scalars = rope-scalars c.args.text.now c.len_bytes.ensures.cut.cut in
    let there = line-between text c.args.end c.line_to_byte.result scalars below c.line_to_byte.ensures in
    let place = subst (λ t. IsCharBoundary (bytes_of t) c.line_to_byte.result) (sym own) there in
    let utf8 : IsUtf8 (bytes_of (slice_text c.slice-2.result)) = (slice_text c.slice-2.result, (ap all_scalars own ∙ scalars, refl)) in
    record {
      range = record { order = omega arith; within = place.0 };
      starts = IsCharBoundary-from_drop (bytes_of (slice_text c.slice-2.result)) 0 (omega arith) utf8;
      stops = place;
    }

pub returns-clause-lines : goal.returns-clause-lines
returns-clause-lines c =
    let text = text_of c.args.text.now in
    let own : slice_text c.slice-2.result ≡ text = ap text_of c.slice-2.ensures ∙ whole-is c.args.text.now in
    let below : c.args.end < line_count text = omega (arith, c.requires, c.if-end-len_lines.false, c.len_lines.ensures) in
    let scalars = rope-scalars c.args.text.now c.len_bytes.ensures.cut.cut in
    (up-to text (slice_text c.byte_slice.result) c.args.end c.line_to_byte.result c.line_to_byte.result scalars below c.line_to_byte.ensures refl
    (c.byte_slice.ensures.bytes ∙ ap (λ t. take c.line_to_byte.result (bytes_of t)) own)).lines

pub returns-clause-within : goal.returns-clause-within
returns-clause-within c =
    let text = text_of c.args.text.now in
    let own : slice_text c.slice-2.result ≡ text = ap text_of c.slice-2.ensures ∙ whole-is c.args.text.now in
    let below : c.args.end < line_count text = omega (arith, c.requires, c.if-end-len_lines.false, c.len_lines.ensures) in
    let scalars = rope-scalars c.args.text.now c.len_bytes.ensures.cut.cut in
    (up-to text (slice_text c.byte_slice.result) c.args.end c.line_to_byte.result c.line_to_byte.result scalars below c.line_to_byte.ensures refl
    (c.byte_slice.ensures.bytes ∙ ap (λ t. take c.line_to_byte.result (bytes_of t)) own)).within

pub returns-clause-few : goal.returns-clause-few
returns-clause-few c =
    let text = text_of c.args.text.now in
    let own : slice_text c.slice-2.result ≡ text = ap text_of c.slice-2.ensures ∙ whole-is c.args.text.now in
    let below : c.args.end < line_count text = omega (arith, c.requires, c.if-end-len_lines.false, c.len_lines.ensures) in
    let scalars = rope-scalars c.args.text.now c.len_bytes.ensures.cut.cut in
    (up-to text (slice_text c.byte_slice.result) c.args.end c.line_to_byte.result c.line_to_byte.result scalars below c.line_to_byte.ensures refl
    (c.byte_slice.ensures.bytes ∙ ap (λ t. take c.line_to_byte.result (bytes_of t)) own)).few
