use Rattle.std.proofs.Common.{◌≡◌, length, ap, ◌∙◌, arith}
use Rattle.ropey.specs.Slices.{slice_text}
use Rattle.str_indices.specs.Text.{byte_len, char_ends, end_place, units}
use Rattle.rope_search.proofs.FrontLemmas.{before-column, narrow-column}
use Rattle.rope_search.proofs.line_columns.column_for.Goals as goal

pub utf16_cu_to_char-requires : goal.utf16_cu_to_char-requires
utf16_cu_to_char-requires c = (before-column (slice_text c.args.line.now) c.args.column c.requires).within

pub char_to_byte-requires : goal.char_to_byte-requires
char_to_byte-requires c =
    let b = before-column (slice_text c.args.line.now) c.args.column c.requires in
    omega (arith, c.utf16_cu_to_char.ensures, b.chars_are, b.few)

pub utf16_cu_to_char-requires-in-Utf32 : goal.utf16_cu_to_char-requires-in-Utf32
utf16_cu_to_char-requires-in-Utf32 c = (before-column (slice_text c.args.line.now) c.args.column c.requires).within

pub returns-in-Utf8 : goal.returns-in-Utf8
returns-in-Utf8 c =
    let text = slice_text c.args.line.now in
    let narrow : units text ≡ byte_len text = omega (arith, c.if-len_utf16_cu-len_bytes.true, c.len_utf16_cu.ensures, c.len_bytes.ensures.bytes) in
    rw c.in-Utf8.is (narrow-column text c.args.column narrow c.requires)

pub returns-in-Utf8-2 : goal.returns-in-Utf8-2
returns-in-Utf8-2 c =
    let text = slice_text c.args.line.now in
    let b = before-column text c.args.column c.requires in
    rw c.in-Utf8-2.is (c.char_to_byte.ensures ∙ ap (λ k. end_place (char_ends text) k (byte_len text)) (c.utf16_cu_to_char.ensures ∙ b.chars_are) ∙ b.bytes_are)

pub returns-in-Utf32 : goal.returns-in-Utf32
returns-in-Utf32 c =
    let b = before-column (slice_text c.args.line.now) c.args.column c.requires in
    rw c.in-Utf32.is (c.utf16_cu_to_char-in-Utf32.ensures ∙ b.chars_are)
