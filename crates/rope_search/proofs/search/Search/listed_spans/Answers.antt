use Rattle.std.proofs.Common.{◌≡◌, ◌<◌, ◌≤◌, ◌++◌, [], All, map, min, length, slice_index_or, ap, sym, subst, ◌∙◌, arith}
use Rattle.ropey.specs.Chunks.{text_of}
use Rattle.rope_search_reports.specs.Position.{line_text}
use Rattle.rope_search_reports.specs.Text.{IsText}
use Rattle.rope_search.specs.LineColumns.{AreColumnsOf}
use Rattle.rope_search.specs.ListedReplacing.{listed_span}
use Rattle.rope_search.proofs.ListedReplacingLemmas.{listed-row, report-row, spans-all, spans-more, spans-none, told-row}
use Rattle.rope_search.proofs.PartLaws.{cutting_scalars}
use Rattle.rope_search.proofs.search.Search.listed_spans.Goals as goal

pub loop-line-init : goal.loop-line-init
loop-line-init c = spans-none _ _ _ _ _ c.new-spans.ensures.items

pub add_spans-requires-clause-columns : goal.add_spans-requires-clause-columns
add_spans-requires-clause-columns c =
    let text = text_of c.args.text.now in
    let rows = c.args.self.now.rows.items in
    let line = c.loop-line.line in
    let scalars : IsText text = cutting_scalars c.args.text.now c.len_bytes.ensures.cut.cut in
    let low : line < length rows = omega (arith, c.loop-line-test.true, c.min-line-end.ensures, c.len.ensures, c.args.self.now.rows.ok.0) in
    let row_is : c.matches.result.now ≡ slice_index_or rows line [] = c.matches.ensures ∙ told-row rows line c.index.result.now low c.index.ensures in
    subst (All (AreColumnsOf (line_text text line))) (sym row_is) (c.reports_have_columns.ensures text c.args.self.now.finder rows line scalars c.requires)

pub loop-line-preserved : goal.loop-line-preserved
loop-line-preserved c =
    let text = text_of c.args.text.now in
    let finder = c.args.self.now.finder in
    let rows = c.args.self.now.rows.items in
    let line = c.loop-line.line in
    let end = min c.args.to (length rows) in
    let scalars : IsText text = cutting_scalars c.args.text.now c.len_bytes.ensures.cut.cut in
    let low : line < end = omega (arith, c.loop-line-test.true, c.min-line-end.ensures, c.len.ensures, c.args.self.now.rows.ok.0) in
    let within : line < length rows = omega (arith, low) in
    let row = slice_index_or rows line [] in
    let row_is : c.matches.result.now ≡ row = c.matches.ensures ∙ told-row rows line c.index.result.now within c.index.ensures in
    let is = report-row c.a_row_a_line.ensures text finder rows line c.requires within in
    let own = listed-row text scalars line is.0 c.groups_follow_each_other.ensures finder row is.1 in
    spans-more text finder c.args.from end line row c.loop-line.spans.items c.add_spans.new.spans.items low own
    (c.in_ok-add_spans.ensures.spans ∙ ap (λ r. c.loop-line.spans.items ++ map (listed_span text line) r) row_is) c.loop-line.invariant

pub returns-clause-spans : goal.returns-clause-spans
returns-clause-spans c =
    let text = text_of c.args.text.now in
    let finder = c.args.self.now.finder in
    let rows = c.args.self.now.rows.items in
    let end = min c.args.to (length rows) in
    let over : end ≤ c.loop-line.line = omega (arith, c.loop-line-test.false, c.min-line-end.ensures, c.len.ensures, c.args.self.now.rows.ok.0) in
    spans-all text finder c.args.from c.args.to end c.loop-line.line c.loop-line.spans.items (ap (min c.args.to) (c.a_row_a_line.ensures text finder rows c.requires)) over c.loop-line.invariant
