use Rattle.std.proofs.Common.{◌≤◌, length, slice_index_or, refl, arith, take}
use Rattle.ropey.specs.Slices.{slice_text}
use Rattle.str_indices.specs.Text.{byte_len, unit_starts}
use Rattle.rope_search.proofs.FrontLemmas.{few-chars, longest-in-bytes, longest-in-units, longest-in-chars}
use Rattle.rope_search.proofs.line_columns.chars_up_to.Goals as goal

pub returns-in-Utf8-clause-within : goal.returns-in-Utf8-clause-within
returns-in-Utf8-clause-within c = omega (arith, c.byte_to_char.ensures, few-chars (slice_text c.args.line.now) c.min.result)

pub returns-in-Utf8-clause-front : goal.returns-in-Utf8-clause-front
returns-in-Utf8-clause-front c =
    let text = slice_text c.args.line.now in
    rw c.in-Utf8.is (longest-in-bytes text c.args.column c.min.result c.byte_to_char.result (omega (arith, c.min.ensures, c.len_bytes.ensures.bytes)) c.byte_to_char.ensures)

pub returns-in-Utf16-clause-within : goal.returns-in-Utf16-clause-within
returns-in-Utf16-clause-within c = omega (arith, c.utf16_cu_to_char.ensures, few-chars (slice_text c.args.line.now) (slice_index_or (unit_starts (slice_text c.args.line.now)) c.min-in-Utf16.result (byte_len (slice_text c.args.line.now))))

pub returns-in-Utf16-clause-front : goal.returns-in-Utf16-clause-front
returns-in-Utf16-clause-front c =
    let text = slice_text c.args.line.now in
    rw c.in-Utf16.is (longest-in-units text c.args.column c.min-in-Utf16.result (slice_index_or (unit_starts text) c.min-in-Utf16.result (byte_len text)) c.utf16_cu_to_char.result (omega (arith, c.min-in-Utf16.ensures, c.len_utf16_cu.ensures)) refl c.utf16_cu_to_char.ensures)

pub returns-in-Utf32-clause-front : goal.returns-in-Utf32-clause-front
returns-in-Utf32-clause-front c =
    let text = slice_text c.args.line.now in
    rw c.in-Utf32.is (longest-in-chars text c.args.column c.min-in-Utf32.result (omega (arith, c.min-in-Utf32.ensures, c.len_chars.ensures)))
