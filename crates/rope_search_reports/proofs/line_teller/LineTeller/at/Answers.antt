use Rattle.std.proofs.Common.{◌^◌, ◌<◌, arith}
use Rattle.str_indices.specs.Text.{byte_len}
use Rattle.str_indices.proofs.TextLaws.{ends_of_a_part-lines}
use Rattle.ropey.specs.Chunks.{is_break}
use Rattle.ropey.specs.Slices.{slice_pieces, slice_text}
use Rattle.rope_search_reports.proofs.StartLemmas.{few-lines}
use Rattle.rope_search_reports.proofs.TellerLemmas.{ends-none, is-teller, reached-there, stays-none}
use Rattle.rope_search_reports.proofs.line_teller.LineTeller.at.Goals as goal

pub invariant_of-result : goal.invariant_of-result
invariant_of-result c =
    let e = c.chunk_at_byte-start.ensures in
    let fits : byte_len (slice_text c.args.text) < 2 ^ 63 = omega (arith, c.len_bytes.ensures.bytes, c.len_bytes.ensures.fits) in
    (is-teller (ends_of_a_part-lines is_break) (slice_pieces c.args.text) _ c.args.byte_idx _ _ _ e.cut.cut e.utf8 e.chunk (few-lines (slice_text c.args.text) fits) fits, stays-none (slice_text c.args.text) _ _, ends-none _)

pub returns-clause-start : goal.returns-clause-start
returns-clause-start c =
    let e = c.chunk_at_byte-start.ensures in
    (reached-there (slice_pieces c.args.text) _ c.args.byte_idx _ _ _ e.utf8 e.chunk c.requires).0

pub returns-clause-end : goal.returns-clause-end
returns-clause-end c =
    let e = c.chunk_at_byte-start.ensures in
    (reached-there (slice_pieces c.args.text) _ c.args.byte_idx _ _ _ e.utf8 e.chunk c.requires).1
