use Rattle.std.specs.Str.{chars}
use Rattle.std.proofs.Common.{take}
use Rattle.str_indices.proofs.TextLaws.{ends_of_a_part-chars, ends_of_a_part-units}
use Rattle.ropey_walk.specs.Slices.{slice_text}
use Rattle.ropey_walk.proofs.Edges.{front_at, stands}
use Rattle.ropey_walk.proofs.slice.RopeSlice.standing_at.Goals as goal

pub returns-clause-stands : goal.returns-clause-stands
returns-clause-stands c =
    let t = slice_text c.args.self.now in
    let p = c.args.place.now in
    stands t p.start p.at (chars (take p.at p.text.now)) (front_at t p.text.now p.start p.at c.requires.utf8 c.requires.place c.requires.boundary)
    ends_of_a_part-chars ends_of_a_part-units _ c.byte_of.ensures c.char_of.ensures c.unit_of.ensures c.line_of.ensures
