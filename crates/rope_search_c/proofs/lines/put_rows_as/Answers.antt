use Rattle.std.proofs.Common.{◌≡◌, ℕ, ◌+◌, ◌<◌, List, [], length, take, map, get_or, ap, sym, subst, ◌∙◌, arith, refl}
use Rattle.std.specs.Prelude.{All}
use Rattle.std.proofs.lemmas.List.{take_all}
use Rattle.ropey.specs.Chunks.{text_of}
use Rattle.rope_search_reports.specs.Position.{line_text}
use Rattle.rope_search_reports.specs.Report.{match_count}
use Rattle.rope_search_reports.specs.Text.{line_count}
use Rattle.rope_search.specs.LineColumns.{AreColumnsOf, columns_as, rows_as}
use Rattle.rope_search_c.specs.Reading.{spans_from, with_front}
use Rattle.rope_search_c.proofs.LineLemmas.{length-as, row-as, counts-as, same-inside}
use Rattle.rope_search_c.proofs.SpanLemmas.{count-more, count-within, put-more, with_no_front}
use Rattle.rope_search_c.proofs.lines.put_rows_as.Goals as goal

pub loop-row-init : goal.loop-row-init
unfolding spans_from
loop-row-init c = (omega arith, refl, with_no_front c.args.out.now)

pub put_line_as-requires-clause-few : goal.put_line_as-requires-clause-few
put_line_as-requires-clause-few c =
    let so = c.loop-row.invariant in let i = c.loop-row.row-index in let row-is = c.matches-matches.ensures ∙ c.row-item.is in
    omega (arith, c.requires.few, count-within c.args.rows.now (i + 1), count-more _ _ _ _ _ c.loop-row-test.true row-is so.1)

pub put_line_as-requires-clause-inside : goal.put_line_as-requires-clause-inside
put_line_as-requires-clause-inside c =
    subst (λ n. n < line_count (text_of c.args.text.now)) (sym c.loop-row.invariant.0) (c.requires.inside c.loop-row.row-index c.loop-row-test.true)

pub put_line_as-requires-clause-columns : goal.put_line_as-requires-clause-columns
put_line_as-requires-clause-columns c =
    let text = text_of c.args.text.now in
    let row-is = c.matches-matches.ensures ∙ c.row-item.is ∙ same-inside c.args.rows.now c.loop-row.row-index c.row-item.result [] c.loop-row-test.true in
    subst (λ n. All (AreColumnsOf (line_text text n)) c.matches-matches.result.now) (sym c.loop-row.invariant.0)
    (subst (All (AreColumnsOf (line_text text (c.args.from + c.loop-row.row-index)))) (sym row-is) (c.requires.columns c.loop-row.row-index))

pub overflow_add-at : goal.overflow_add-at
overflow_add-at c =
    let so = c.loop-row.invariant in let i = c.loop-row.row-index in let row-is = c.matches-matches.ensures ∙ c.row-item.is in
    record { fits = omega (arith, c.requires.few, count-within c.args.rows.now (i + 1), count-more _ _ _ _ _ c.loop-row-test.true row-is so.1) }

pub loop-row-preserved : goal.loop-row-preserved
loop-row-preserved c =
    let so = c.loop-row.invariant in
    let i = c.loop-row.row-index in
    let text = text_of c.args.text.now in
    let e = c.args.encoding in
    let rows = c.args.rows.now in
    let told = rows_as e text c.args.from rows in
    let row = c.matches-matches.result.now in
    let row-is = c.matches-matches.ensures ∙ c.row-item.is in
    let inside : i < length told = omega (arith, c.loop-row-test.true, length-as e text c.args.from rows) in
    let here : map (columns_as e (line_text text c.loop-row.line)) row ≡ get_or told i [] =
    ap (λ n. map (columns_as e (line_text text n)) row) so.0 ∙ ap (map (columns_as e (line_text text (c.args.from + i)))) (row-is ∙ same-inside rows i c.row-item.result [] c.loop-row-test.true) ∙ sym (row-as e text c.args.from rows i) in
    let count : c.loop-row.at ≡ match_count (take i told) = so.1 ∙ sym (counts-as e text c.args.from rows i) in (
      omega (arith, so.0),
      count-more _ _ _ _ _ c.loop-row-test.true row-is so.1,
      put-more c.args.from c.loop-row.line i c.loop-row.at told [] (map (columns_as e (line_text text c.loop-row.line)) row) c.args.out.now c.loop-row.out _ inside here so.0 count so.2 c.put_line_as.ensures,
    )

pub returns-clause-put : goal.returns-clause-put
returns-clause-put c =
    let told = rows_as c.args.encoding (text_of c.args.text.now) c.args.from c.args.rows.now in
    let all = take_all c.loop-row.row-index told (omega (arith, length-as c.args.encoding (text_of c.args.text.now) c.args.from c.args.rows.now, c.loop-row-test.false)) in
    c.loop-row.invariant.2 ∙ ap (λ rs. with_front (spans_from c.args.from rs) c.args.out.now) all
