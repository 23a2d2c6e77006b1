use Rattle.std.proofs.Common.{ℕ, ◌-◌}
use Rattle.std.specs.Str.{chars}
use Rattle.ropey_walk.specs.Slices.{slice_pieces, slice_text}
use Rattle.ropey_walk.proofs.Placing.{byte_placed}
use Rattle.ropey_walk.proofs.Edges.{boundary_in, boundary_out, cutting-scalars}
use Rattle.ropey_walk.proofs.slice.RopeSlice.place_of_byte.Goals as goal

pub returns-clause-stands : goal.returns-clause-stands
returns-clause-stands c =
    let r = c.chunk-chunk.result in
    (byte_placed (slice_pieces c.args.self.now) c.args.byte_idx (chars r.text.now) r.start c.chunk-chunk.ensures.stands c.chunk-chunk.ensures.cut c.requires).stands

pub returns-clause-boundary : goal.returns-clause-boundary
returns-clause-boundary c =
    let t = slice_text c.args.self.now in
    let r = c.chunk-chunk.result in
    let e = c.chunk-chunk.ensures in
    let at : ℕ = c.args.byte_idx - r.start.bytes in
    let placed = byte_placed (slice_pieces c.args.self.now) c.args.byte_idx (chars r.text.now) r.start e.stands e.cut c.requires in (
      boundary_in t r.text.now r.start at c.args.byte_idx e.utf8 placed.stands placed.place_is,
      boundary_out t r.text.now r.start at c.args.byte_idx e.utf8 placed.stands placed.place_is (cutting-scalars (slice_pieces c.args.self.now) e.cut.cut),
    )
