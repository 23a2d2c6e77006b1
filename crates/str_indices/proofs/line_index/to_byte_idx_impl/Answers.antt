use Rattle.std.proofs.Common.{arith}
use Rattle.str_indices.proofs.Indices.{last_bytes-line}
use Rattle.str_indices.proofs.line_index.to_byte_idx_impl.Goals as goal

pub returns-then-last-text-clause-place : goal.returns-then-last-text-clause-place
returns-then-last-text-clause-place g c =
    let e = last_bytes-line _ _ g.met.M.BreakMeasure.at_last_bytes c.args.text.now c.as_bytes.result.now c.args.line_idx c.find_past-last.result c.utf8.text c.if-line_idx-eq0.false c.as_bytes.ensures.value c.find_past-last.ensures.place in
    omega arith

pub returns-else-last-text-clause-place : goal.returns-else-last-text-clause-place
returns-else-last-text-clause-place g c =
    let e = last_bytes-line _ _ g.met.M.BreakMeasure.at_last_bytes c.args.text.now c.as_bytes.result.now c.args.line_idx c.find_past-last.result c.utf8.text c.if-line_idx-eq0.false c.as_bytes.ensures.value c.find_past-last.ensures.place in
    omega arith
