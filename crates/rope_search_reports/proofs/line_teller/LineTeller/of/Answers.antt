use Rattle.std.proofs.Common.{◌^◌, ◌<◌, arith}
use Rattle.str_indices.specs.Text.{byte_len}
use Rattle.str_indices.proofs.TextLaws.{ends_of_a_part-lines}
use Rattle.ropey.specs.Chunks.{is_break}
use Rattle.ropey.specs.Slices.{slice_text}
use Rattle.rope_search_reports.proofs.StartLemmas.{few-lines}
use Rattle.rope_search_reports.proofs.TellerLemmas.{ends-none, stays-none, teller-start}
use Rattle.rope_search_reports.proofs.line_teller.LineTeller.of.Goals as goal

pub invariant_of-result : goal.invariant_of-result
invariant_of-result c =
    let fits : byte_len (slice_text c.args.text) < 2 ^ 63 = omega (arith, c.len_bytes.ensures.bytes, c.len_bytes.ensures.fits) in
    (teller-start (ends_of_a_part-lines is_break) (slice_text c.args.text) (few-lines (slice_text c.args.text) fits) fits, stays-none (slice_text c.args.text) _ _, ends-none _)
