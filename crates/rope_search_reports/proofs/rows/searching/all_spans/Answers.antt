use Rattle.std.proofs.Common.{IsUtf8, refl, ap, subst}
use Rattle.ropey.specs.Slices.{slice_bytes, slice_text}
use Rattle.regex_cursor.proofs.TreeLaws.{finds_of_trees}
use Rattle.rope_search_reports.specs.Finders.{AreSpansOf}
use Rattle.rope_search_reports.proofs.RowLemmas.{spans-stand}
use Rattle.rope_search_reports.proofs.rows.searching.all_spans.Goals as goal

pub write_spans-requires-clause-first : goal.write_spans-requires-clause-first
write_spans-requires-clause-first c = ap (λ p. p.last) c.in_text-pass.ensures.begins

pub write_spans-requires-clause-goes_on : goal.write_spans-requires-clause-goes_on
write_spans-requires-clause-goes_on c = ap (λ p. p.is_over) c.in_text-pass.ensures.begins

pub write_spans-requires-clause-by : goal.write_spans-requires-clause-by
write_spans-requires-clause-by c = ap (λ p. p.by) c.in_text-pass.ensures.begins

pub returns-clause-spans : goal.returns-clause-spans
returns-clause-spans c = λ text built.
    let same = ap (λ p. p.content) c.in_text-pass.ensures.begins in
    subst (λ content. AreSpansOf built.tree content c.write_spans.new.spans.items) same (c.in_ok-write_spans.ensures.spans text built)

pub returns-clause-stand : goal.returns-clause-stand
returns-clause-stand c =
    let content = slice_bytes c.args.text in
    let utf8 : IsUtf8 content = (slice_text c.args.text, (c.in_text-pass.ensures.scalars, refl)) in
    let built = c.requires.1 in
    spans-stand built.tree content c.in_text-pass.result.content c.write_spans.new.spans.items (finds_of_trees built.tree) utf8
    (ap (λ p. p.content) c.in_text-pass.ensures.begins) (c.in_ok-write_spans.ensures.spans c.requires.0 built)
