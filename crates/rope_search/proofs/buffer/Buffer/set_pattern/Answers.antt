use Rattle.std.proofs.Common.{◌≡◌, Err, ap}
use Rattle.std.proofs.lemmas.Result.{err_from_is_err_and}
use Rattle.rope_search_io.specs.declared.faults.Fault.TheVariants.{Pattern}
use Rattle.ropey.specs.Chunks.{text_of}
use Rattle.rope_search.specs.Session.{LimitedBuffer}
use Rattle.rope_search.proofs.WholeLemmas.{replaces-set}
use Rattle.rope_search.proofs.buffer.Buffer.set_pattern.Goals as goal

pub returns-in_err-finder-clause-no_pattern : goal.returns-in_err-finder-clause-no_pattern
returns-in_err-finder-clause-no_pattern c = λ told.
    let p = err_from_is_err_and c.from_residual.result c.from_residual.ensures.1 in
    let fault : c.in_err-finder.field-0.0 ≡ Pattern = cc in
    c.in_err-finder.ensures.no_pattern (ap Err fault)

pub returns-clause-changed : goal.returns-clause-changed
returns-clause-changed c =
    let history = c.self.inside.history in
    replaces-set c.a_row_a_line.ensures history.texts history.current c.self.inside.search c.args.self.now.state (text_of c.current-text.result.now) c.report_of.new.finder c.row_count.result
    c.len_lines.result c.whole-self-inside.result (ap (λ (v : LimitedBuffer). v.state) c.self.view_is) c.current-text.ensures.text c.row_count.ensures c.len_lines.ensures c.whole-self-inside.ensures
