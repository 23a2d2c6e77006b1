use Rattle.str_indices.proofs.TextLaws.{places_of_a_part-units, to_byte_idx_is_a_boundary-units}
use Rattle.ropey_walk.specs.Slices.{slice_pieces}
use Rattle.ropey_walk.proofs.Placing.{unit_placed}
use Rattle.ropey_walk.proofs.slice.RopeSlice.place_of_unit.Goals as goal

pub returns-clause-stands : goal.returns-clause-stands
returns-clause-stands c =
    let r = c.chunk-chunk.result in
    let e = c.chunk-chunk.ensures in
    rw c.byte_of_unit.ensures (unit_placed (slice_pieces c.args.self.now) r.text.now r.start e.utf8 e.cut places_of_a_part-units to_byte_idx_is_a_boundary-units c.args.utf16_cu_idx e.stands).stands

pub returns-clause-place : goal.returns-clause-place
returns-clause-place c =
    let r = c.chunk-chunk.result in
    let e = c.chunk-chunk.ensures in
    rw c.byte_of_unit.ensures (unit_placed (slice_pieces c.args.self.now) r.text.now r.start e.utf8 e.cut places_of_a_part-units to_byte_idx_is_a_boundary-units c.args.utf16_cu_idx e.stands).place_is

pub byte_of_unit-requires : goal.byte_of_unit-requires
byte_of_unit-requires c = c.chunk-chunk.result.ascii
