use Rattle.std.proofs.Common.{ap, sym, ◌∙◌, chars}
use Rattle.std.proofs.lemmas.Str.{scalars-chars}
use Rattle.str_indices.specs.Text.{unit_starts}
use Rattle.std.specs.Prelude.{slice_index_or}
use Rattle.rope_search_reports.proofs.ColumnPlaces.{column-found, column-missed, length-chars}
use Rattle.rope_search_reports.proofs.positions.place_in_str.Goals as goal

pub returns-then-from_byte_idx-column : goal.returns-then-from_byte_idx-column
returns-then-from_byte_idx-column c =
    let own = chars c.args.text.now in
    let byte_is = c.to_byte_idx-byte_idx.ensures ∙ ap (slice_index_or (unit_starts own) c.args.column) (length-chars c.args.text.now c.utf8.text) in
    column-missed own c.args.column c.to_byte_idx-byte_idx.result byte_is (λ same. c.if-from_byte_idx-column.true (c.from_byte_idx.ensures ∙ same))

pub returns : goal.returns
returns c =
    let own = chars c.args.text.now in
    let byte_is = c.to_byte_idx-byte_idx.ensures ∙ ap (slice_index_or (unit_starts own) c.args.column) (length-chars c.args.text.now c.utf8.text) in
    column-found own c.args.column _ (scalars-chars c.args.text.now c.utf8.text) byte_is (sym c.from_byte_idx.ensures ∙ c.if-from_byte_idx-column.false) c.from_byte_idx-2.ensures
