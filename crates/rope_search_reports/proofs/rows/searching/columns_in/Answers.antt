use Rattle.std.proofs.Common.{◌++◌, length, take, drop, map, ap, sym, subst, ◌∙◌}
use Rattle.std.proofs.Math.Seq.{take-append_seam}
use Rattle.std.proofs.lemmas.List.{length-map}
use Rattle.regex_cursor.proofs.TreeLaws.{finds_of_trees}
use Rattle.rope_search_reports.specs.Text.{bytes_of}
use Rattle.rope_search_reports.specs.Drafts.{own_text}
use Rattle.rope_search_reports.specs.Replacement.{AreMatchesIn, alone}
use Rattle.rope_search_reports.specs.Report.{columns}
use Rattle.rope_search_reports.proofs.OwnLemmas.{own-utf8}
use Rattle.rope_search_reports.proofs.RowLemmas.{row-of-spans, spans-stand}
use Rattle.rope_search_reports.proofs.rows.searching.columns_in.Goals as goal

pub write_spans-requires-clause-first : goal.write_spans-requires-clause-first
write_spans-requires-clause-first g c = ap (λ p. p.last) c.in_line-pass.ensures.begins

pub write_spans-requires-clause-goes_on : goal.write_spans-requires-clause-goes_on
write_spans-requires-clause-goes_on g c = ap (λ p. p.is_over) c.in_line-pass.ensures.begins

pub write_spans-requires-clause-by : goal.write_spans-requires-clause-by
write_spans-requires-clause-by g c = ap (λ p. p.by) c.in_line-pass.ensures.begins

pub turn_into_columns-requires-clause-matches : goal.turn_into_columns-requires-clause-matches
turn_into_columns-requires-clause-matches g c =
    let line = own_text c.args.line.now in
    let built = c.requires.built.1 in
    subst (λ spans. AreMatchesIn (bytes_of line) (map alone spans)) (sym c.as_mut_slice.ensures.value)
    (spans-stand built.tree (bytes_of line) c.in_line-pass.result.content c.write_spans.new.spans.items (finds_of_trees built.tree) (own-utf8 c.args.line.now c.requires.holds)
    (ap (λ p. p.content) c.in_line-pass.ensures.begins ∙ c.requires.shows) (c.in_ok-write_spans.ensures.spans c.requires.built.0 built))

pub returns-clause-row : goal.returns-clause-row
returns-clause-row g c = λ text built.
    let line = own_text c.args.line.now in
    let row = c.turn_into_columns.new.spans in
    let old = c.write_spans.new.spans.items in
    let len = ap length c.turn_into_columns.ensures ∙ length-map c.as_mut_slice.result.now (columns (bytes_of line)) ∙ c.as_mut_slice.ensures.len in
    let whole = ap (λ n. take n (row ++ drop (length row) old)) (sym len) ∙ take-append_seam row (drop (length row) old) in
    row-of-spans built.tree line c.in_line-pass.result.content c.write_spans.new.spans.items _
    (ap (λ p. p.content) c.in_line-pass.ensures.begins ∙ c.requires.shows) (c.in_ok-write_spans.ensures.spans text built)
    (whole ∙ c.turn_into_columns.ensures ∙ ap (map (columns (bytes_of line))) c.as_mut_slice.ensures.value)
