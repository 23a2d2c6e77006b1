use Rattle.std.proofs.Common.{◌≡◌, ℕ, ◌+◌, ◌<◌, List, [], length, get_or, inl, refl, ap, sym, subst, ◌∙◌, arith}
use Rattle.std.specs.Prelude.{All}
use Rattle.ropey.specs.Chunks.{text_of}
use Rattle.rope_search_reports.specs.Position.{line_text}
use Rattle.rope_search_reports.specs.Report.{match_count}
use Rattle.rope_search_reports.specs.Text.{IsText, line_count}
use Rattle.rope_search.specs.LineColumns.{AreColumnsOf, rows_as}
use Rattle.rope_search.specs.Session.{chosen_buffer}
use Rattle.rope_search.proofs.PartLaws.{cutting_scalars}
use Rattle.rope_search_c.specs.Reading.{rows_between, spans_from, text_in, with_front}
use Rattle.rope_search_c.proofs.LineLemmas.{AreOfLines, of-lines, row-between, columns-between}
use Rattle.rope_search_c.proofs.SpanLemmas.{count_between}
use Rattle.rope_search_c.proofs.counting.CountingSession.copy_matches_in.Goals as goal

pub put_rows_as-requires-clause-few : goal.put_rows_as-requires-clause-few
put_rows_as-requires-clause-few c =
    omega (arith, c.rows.ensures.few, count_between c.args.from c.args.to c.rows.result.now, ap match_count c.rows_between-rows.ensures)

pub put_rows_as-requires-clause-inside : goal.put_rows_as-requires-clause-inside
put_rows_as-requires-clause-inside c = λ k low.
    let text = text_of c.text-2.result.now in
    let scalars : IsText (text_in c.args.self.now) = subst IsText c.text.ensures (cutting_scalars c.text.result.now c.len_bytes.ensures.cut.cut) in
    let of = of-lines c.a_row_a_line.ensures c.reports_have_columns.ensures (chosen_buffer c.args.self.now.session.state) c.rows.result.now scalars c.rows.ensures.rows in
    let is = c.rows_between-rows.ensures in
    let there = row-between c.args.from c.args.to c.rows.result.now k (subst (λ rs. k < length rs) is low) in
    subst (λ t. c.args.from + k < line_count t) (sym c.text-2.ensures) (of.inside (c.args.from + k) there.1)

pub put_rows_as-requires-clause-columns : goal.put_rows_as-requires-clause-columns
put_rows_as-requires-clause-columns c = λ k.
    let scalars : IsText (text_in c.args.self.now) = subst IsText c.text.ensures (cutting_scalars c.text.result.now c.len_bytes.ensures.cut.cut) in
    let of = of-lines c.a_row_a_line.ensures c.reports_have_columns.ensures (chosen_buffer c.args.self.now.session.state) c.rows.result.now scalars c.rows.ensures.rows in
    subst (λ t. All (AreColumnsOf (line_text t (c.args.from + k))) (get_or c.rows_between-rows.result.now k [])) (sym c.text-2.ensures)
    (subst (λ rs. All (AreColumnsOf (line_text (text_in c.args.self.now) (c.args.from + k))) (get_or rs k [])) (sym c.rows_between-rows.ensures)
    (columns-between c.args.from c.args.to (text_in c.args.self.now) c.rows.result.now of k))

pub returns : goal.returns
returns c =
    let e = c.in-Some.encoding in
    inl (
      e,
      c.in-Some.ensures,
      record {
        rows = c.rows.result.now;
        are = c.rows.ensures.rows;
        counted = c.put_rows_as.ensures.count ∙ ap match_count c.rows_between-rows.ensures;
        copied = c.put_rows_as.ensures.put
            ∙ ap (λ t. with_front (spans_from c.args.from (rows_as e t c.args.from c.rows_between-rows.result.now)) c.args.out.now) c.text-2.ensures
            ∙ ap (λ rs. with_front (spans_from c.args.from (rows_as e (text_in c.args.self.now) c.args.from rs)) c.args.out.now) c.rows_between-rows.ensures;
      },
    )
