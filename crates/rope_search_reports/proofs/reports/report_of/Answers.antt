use Rattle.std.proofs.Common.{◌≡◌, ◌-◌, take, drop, subst, arith}
use Rattle.std.proofs.lemmas.List.{take_all}
use Rattle.std.proofs.lemmas.Result.{IfOk-weaker}
use Rattle.ropey.specs.Chunks.{text_of}
use Rattle.regex_cursor.proofs.TreeLaws.{finds_of_trees}
use Rattle.rope_search_reports.specs.Report.{line_texts, AreRows, IsReport}
use Rattle.rope_search_reports.proofs.FewLemmas.{report-few}
use Rattle.rope_search_reports.proofs.LineLemmas.{lines-counted}
use Rattle.rope_search_reports.proofs.reports.report_of.Goals as goal

pub returns-clause-rows : goal.returns-clause-rows
returns-clause-rows c =
    let all = line_texts (text_of c.args.text.now) in
    let whole : take (c.len_lines.result - 0) (drop 0 all) ≡ all =
    take_all (c.len_lines.result - 0) all (omega (arith, c.len_lines.ensures, lines-counted (text_of c.args.text.now))) in
    IfOk-weaker c.rows_of_lines.result _ (λ rows. IsReport (text_of c.args.text.now) c.args.finder.now rows.items)
    (λ rows are. subst (λ ls. AreRows c.args.finder.now ls rows.items) whole are) c.rows_of_lines.ensures.rows

pub returns-clause-few : goal.returns-clause-few
returns-clause-few c =
    IfOk-weaker c.rows_of_lines.result _ _
    (λ rows is. omega (arith, report-few finds_of_trees (text_of c.args.text.now) c.args.finder.now rows.items is, c.len_bytes.ensures.bytes, c.len_bytes.ensures.fits))
    (returns-clause-rows c)
