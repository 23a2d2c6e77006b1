use Rattle.std.proofs.Common.{◌≡◌, ◌∙◌, arith}
use Rattle.ropey.specs.Slices.{slice_pieces, slice_text}
use Rattle.str_indices.specs.Text.{byte_len, units}
use Rattle.rope_search_reports.proofs.ColumnLemmas.{ascii-column, char-column}
use Rattle.rope_search_reports.proofs.PlaceLemmas.{rope-scalars}
use Rattle.rope_search_reports.proofs.TextPlaces.{places}
use Rattle.rope_search_reports.proofs.columns.column_at.Goals as goal

pub returns-then-len_utf16_cu-len_bytes : goal.returns-then-len_utf16_cu-len_bytes
returns-then-len_utf16_cu-len_bytes c =
    let line = slice_text c.args.line.now in
    let scalars = rope-scalars (slice_pieces c.args.line.now) c.len_bytes.ensures.cut.cut in
    let ascii : units line ≡ byte_len line = omega (arith, c.if-len_utf16_cu-len_bytes.true, c.len_utf16_cu.ensures, c.len_bytes.ensures.bytes) in
    ascii-column places line c.args.byte_idx scalars c.requires ascii

pub char_to_utf16_cu-requires : goal.char_to_utf16_cu-requires
char_to_utf16_cu-requires c =
    let line = slice_text c.args.line.now in
    let scalars = rope-scalars (slice_pieces c.args.line.now) c.len_bytes.ensures.cut.cut in
    (char-column places line c.args.byte_idx c.byte_to_char.result scalars c.requires c.byte_to_char.ensures).0

pub returns : goal.returns
returns c =
    let line = slice_text c.args.line.now in
    let scalars = rope-scalars (slice_pieces c.args.line.now) c.len_bytes.ensures.cut.cut in
    c.char_to_utf16_cu.ensures ∙ (char-column places line c.args.byte_idx c.byte_to_char.result scalars c.requires c.byte_to_char.ensures).1
