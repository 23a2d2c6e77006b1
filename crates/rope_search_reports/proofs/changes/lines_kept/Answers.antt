use Rattle.std.proofs.Common.{ap, arith}
use Rattle.ropey.specs.Chunks.{text_of}
use Rattle.rope_search_reports.specs.Text.{line_count}
use Rattle.rope_search_reports.proofs.KeptLemmas.{as-many}
use Rattle.rope_search_reports.proofs.changes.lines_kept.Goals as goal

pub overflow_sub-result : goal.overflow_sub-result
overflow_sub-result c =
    let h = as-many (text_of c.args.old.now) (text_of c.args.new.now) c.args.old_end c.args.done (c.requires.alike c.if-is_last.true) in
    let less = h.less in
    omega (arith, less, c.len_lines.ensures, c.len_lines-then-is_last.ensures)

pub returns-then-is_last-clause-lines : goal.returns-then-is_last-clause-lines
returns-then-is_last-clause-lines c =
    let h = as-many (text_of c.args.old.now) (text_of c.args.new.now) c.args.old_end c.args.done (c.requires.alike c.if-is_last.true) in
    let lines = h.lines in
    omega (arith, lines, c.len_lines.ensures, c.len_lines-then-is_last.ensures)

pub overflow_add-result : goal.overflow_add-result
overflow_add-result c = omega (arith, c.line.ensures.few, ap line_count c.requires.text, c.requires.fits)
