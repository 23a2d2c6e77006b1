use Rattle.std.proofs.Common.{arith}
use Rattle.str_indices.proofs.Indices.{last_bytes-line}
use Rattle.str_indices.proofs.line_index.to_byte_idx.Goals as goal

pub returns-then-last-text : goal.returns-then-last-text
returns-then-last-text g c =
    let e = last_bytes-line _ _ g.met.M.BreakMeasure.at_last_bytes c.args.text.now c.as_bytes.result.now c.args.line_idx c.find_past-last.result c.utf8.text c.if-line_idx-eq0.false c.as_bytes.ensures.value c.find_past-last.ensures in
    omega arith

pub returns-else-last-text : goal.returns-else-last-text
returns-else-last-text g c =
    let e = last_bytes-line _ _ g.met.M.BreakMeasure.at_last_bytes c.args.text.now c.as_bytes.result.now c.args.line_idx c.find_past-last.result c.utf8.text c.if-line_idx-eq0.false c.as_bytes.ensures.value c.find_past-last.ensures in
    omega arith
