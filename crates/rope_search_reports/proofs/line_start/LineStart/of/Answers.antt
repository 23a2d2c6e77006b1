use Rattle.std.proofs.Common.{arith}
use Rattle.ropey.specs.Slices.{slice_pieces}
use Rattle.rope_search_reports.proofs.StartLemmas.{first-low, starts-in}
use Rattle.rope_search_reports.proofs.line_start.LineStart.of.Goals as goal

pub overflow_sub-line_idx : goal.overflow_sub-line_idx
overflow_sub-line_idx c =
    let e = c.chunk_at_line_break-byte_idx.ensures in
    first-low (slice_pieces c.args.text.now) c.args.line_idx _ _ _ _ c.len_bytes.ensures.cut.cut e.chunk

pub returns : goal.returns
returns c =
    let e = c.chunk_at_line_break-byte_idx.ensures in
    starts-in (slice_pieces c.args.text.now) c.args.line_idx _ _ c.len_bytes.ensures.cut.cut e.utf8 (omega (arith, c.len_bytes.ensures.bytes, c.len_bytes.ensures.fits)) e.chunk c.to_byte_idx.ensures
