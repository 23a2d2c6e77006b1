use Rattle.std.proofs.Common.{length, arith}
use Rattle.std.proofs.lemmas.Result.{IfOk-weaker}
use Rattle.ropey.specs.Chunks.{text_of}
use Rattle.rope_search.proofs.PendingLemmas.{made-counted, window-rows}
use Rattle.rope_search.proofs.search.Search.rows_in_window.Goals as goal

pub returns-clause-rows : goal.returns-clause-rows
returns-clause-rows c =
    let text = text_of c.args.text.now in
    let finder = c.args.self.now.finder in
    let rows = c.args.self.now.rows.items in
    IfOk-weaker c.rows_of_lines.result _ _
    (λ made are. window-rows text finder rows made.items c.args.from c.args.to (length rows) c.min-end.result c.min-first.result c.requires (omega (arith, c.min-end.ensures)) (omega (arith, c.min-first.ensures)) are)
    c.rows_of_lines.ensures.rows

pub returns-clause-each : goal.returns-clause-each
returns-clause-each c =
    made-counted (text_of c.args.text.now) c.args.self.now.finder c.min-first.result c.min-end.result c.args.tick.now c.rows_of_lines.new.tick
    (omega (arith, c.min-first.ensures)) (omega (arith, c.min-end.ensures, c.len_lines.ensures)) c.rows_of_lines.result c.rows_of_lines.ensures.rows c.rows_of_lines.ensures.each
