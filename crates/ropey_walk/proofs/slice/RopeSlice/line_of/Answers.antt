use Rattle.std.proofs.Common.{arith}
use Rattle.std.specs.Str.{chars}
use Rattle.str_indices.proofs.TextLaws.{counts_are_at_most_bytes-lines, ends_of_a_part-lines, from_byte_idx_is_monotone-lines}
use Rattle.ropey_walk.specs.Chunks.{is_break}
use Rattle.ropey_walk.specs.Slices.{slice_text}
use Rattle.ropey_walk.proofs.Placing.{tells_lines}
use Rattle.ropey_walk.proofs.slice.RopeSlice.line_of.Goals as goal

pub overflow_add-result : goal.overflow_add-result
overflow_add-result c =
    let place = c.args.place.now in
    let told = tells_lines (ends_of_a_part-lines is_break) (from_byte_idx_is_monotone-lines is_break) (counts_are_at_most_bytes-lines is_break) (slice_text c.args.self.now) (chars place.text.now) place.start place.at c.requires in
    omega (arith, told.fits, c.from_byte_idx.ensures)

pub returns : goal.returns
returns c =
    let place = c.args.place.now in
    let told = tells_lines (ends_of_a_part-lines is_break) (from_byte_idx_is_monotone-lines is_break) (counts_are_at_most_bytes-lines is_break) (slice_text c.args.self.now) (chars place.text.now) place.start place.at c.requires in
    rw c.from_byte_idx.ensures told.is
