use Rattle.std.proofs.Common.{◌+◌, ◌<◌, refl, ap, sym, subst, ◌∙◌, arith}
use Rattle.ropey.specs.Chunks.{text_of}
use Rattle.ropey.specs.Slices.{slice_text}
use Rattle.rope_search_reports.specs.declared.positions.OwnLine.{OwnLine}
use Rattle.rope_search_reports.specs.Text.{line_count}
use Rattle.rope_search_reports.specs.Drafts.{IsOwnLine}
use Rattle.rope_search_reports.proofs.FinderLemmas.{whole-is}
use Rattle.rope_search_reports.proofs.PlaceLemmas.{rope-scalars}
use Rattle.rope_search_reports.proofs.StartLemmas.{chars-there}
use Rattle.rope_search_reports.proofs.positions.OwnLine.of.Goals as goal

pub of-start-requires : goal.of-start-requires
of-start-requires c =
    let own = ap text_of c.slice-whole.ensures ∙ whole-is c.args.text.now in
    omega (arith, c.len_lines.ensures, c.if-line_idx-len_lines.false, ap line_count own)

pub overflow_add-result : goal.overflow_add-result
overflow_add-result c =
    let near = (chars-there (slice_text c.slice-whole.result) c.args.line_idx c.of-start.result c.of-start.ensures).near in
    omega (arith, near, c.of-start.ensures.fits)

pub chars_before-requires-clause-below : goal.chars_before-requires-clause-below
chars_before-requires-clause-below c =
    let own = ap text_of c.slice-whole.ensures ∙ whole-is c.args.text.now in
    omega (arith, c.len_lines.ensures, c.if-line_idx-len_lines.false, ap line_count own)

pub line-requires : goal.line-requires
line-requires c = (c.args.line_idx, c.of-start.ensures)

pub returns-clause-line : goal.returns-clause-line
returns-clause-line c =
    let own = ap text_of c.slice-whole.ensures ∙ whole-is c.args.text.now in
    let starts = c.of-start.ensures in
    let below : c.args.line_idx < line_count (slice_text c.slice-whole.result) = omega (arith, c.len_lines.ensures, c.if-line_idx-len_lines.false, ap line_count own) in
    let line : OwnLine = record {
      whole = c.slice-whole.result;
      line_idx = c.args.line_idx;
      start = record { byte_idx = c.of-start.result.byte_idx + c.of-start.result.at; char_idx = c.chars_before.result };
      text = c.line.result;
    } in
    subst (λ t. IsOwnLine t c.args.line_idx line) own (record {
      inside = below;
      whole_is = refl;
      line_is = refl;
      byte_is = sym starts.there;
      char_is = c.chars_before.ensures;
      text_is = c.line.ensures.own c.args.line_idx starts below;
      utf8 = c.line.ensures.utf8;
      scalars = starts.scalars;
      fits = starts.fits;
    })

pub returns-then-line_idx-len_lines-clause-scalars : goal.returns-then-line_idx-len_lines-clause-scalars
returns-then-line_idx-len_lines-clause-scalars c = rope-scalars c.args.text.now c.len_bytes.ensures.cut.cut

pub returns-clause-scalars : goal.returns-clause-scalars
returns-clause-scalars c = rope-scalars c.args.text.now c.len_bytes.ensures.cut.cut
