use Rattle.std.proofs.Common.{arith}
use Rattle.std.specs.Str.{chars}
use Rattle.str_indices.proofs.TextLaws.{counts_are_at_most_bytes-chars, ends_of_a_part-chars, from_byte_idx_is_monotone-chars}
use Rattle.ropey_walk.specs.Slices.{slice_text}
use Rattle.ropey_walk.proofs.Placing.{tells_chars}
use Rattle.ropey_walk.proofs.slice.RopeSlice.char_of.Goals as goal

pub overflow_add-result : goal.overflow_add-result
overflow_add-result c =
    let place = c.args.place.now in
    let told = tells_chars ends_of_a_part-chars from_byte_idx_is_monotone-chars counts_are_at_most_bytes-chars (slice_text c.args.self.now) (chars place.text.now) place.start place.at c.requires in
    omega (arith, told.fits, c.char_of_byte.ensures)

pub returns : goal.returns
returns c =
    let place = c.args.place.now in
    let told = tells_chars ends_of_a_part-chars from_byte_idx_is_monotone-chars counts_are_at_most_bytes-chars (slice_text c.args.self.now) (chars place.text.now) place.start place.at c.requires in
    rw c.char_of_byte.ensures told.is

pub char_of_byte-requires-clause-one_byte : goal.char_of_byte-requires-clause-one_byte
char_of_byte-requires-clause-one_byte c = c.args.place.now.ascii

pub char_of_byte-requires-clause-within : goal.char_of_byte-requires-clause-within
char_of_byte-requires-clause-within c = c.requires.within
