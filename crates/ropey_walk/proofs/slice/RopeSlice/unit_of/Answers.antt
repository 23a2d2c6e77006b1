use Rattle.std.proofs.Common.{arith}
use Rattle.std.specs.Str.{chars}
use Rattle.str_indices.proofs.TextLaws.{counts_are_at_most_bytes-units, ends_of_a_part-units, from_byte_idx_is_monotone-units}
use Rattle.ropey_walk.specs.Slices.{slice_text}
use Rattle.ropey_walk.proofs.Placing.{tells_units}
use Rattle.ropey_walk.proofs.slice.RopeSlice.unit_of.Goals as goal

pub overflow_add-result : goal.overflow_add-result
overflow_add-result c =
    let place = c.args.place.now in
    let told = tells_units ends_of_a_part-units from_byte_idx_is_monotone-units counts_are_at_most_bytes-units (slice_text c.args.self.now) (chars place.text.now) place.start place.at c.requires in
    omega (arith, told.fits, c.unit_of_byte.ensures)

pub returns : goal.returns
returns c =
    let place = c.args.place.now in
    let told = tells_units ends_of_a_part-units from_byte_idx_is_monotone-units counts_are_at_most_bytes-units (slice_text c.args.self.now) (chars place.text.now) place.start place.at c.requires in
    rw c.unit_of_byte.ensures told.is

pub unit_of_byte-requires-clause-one_byte : goal.unit_of_byte-requires-clause-one_byte
unit_of_byte-requires-clause-one_byte c = c.args.place.now.ascii

pub unit_of_byte-requires-clause-within : goal.unit_of_byte-requires-clause-within
unit_of_byte-requires-clause-within c = c.requires.within
