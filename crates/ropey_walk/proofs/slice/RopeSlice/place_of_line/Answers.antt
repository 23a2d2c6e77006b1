use Rattle.std.proofs.Common.{◌-◌}
use Rattle.std.specs.Str.{chars}
use Rattle.str_indices.specs.Text.{break_ends}
use Rattle.str_indices.proofs.TextLaws.{places_of_a_part-lines, to_byte_idx_is_a_boundary-lines}
use Rattle.ropey_walk.specs.Chunks.{is_break}
use Rattle.ropey_walk.specs.Slices.{slice_pieces}
use Rattle.ropey_walk.proofs.Placing.{line_placed, line_low}
use Rattle.ropey_walk.proofs.Edges.{end_is_boundary}
use Rattle.ropey_walk.proofs.slice.RopeSlice.place_of_line.Goals as goal

pub overflow_sub-line_idx : goal.overflow_sub-line_idx
overflow_sub-line_idx c =
    let r = c.chunk_of_break-chunk.result in
    let e = c.chunk_of_break-chunk.ensures in
    line_low (slice_pieces c.args.self.now) (chars r.text.now) r.start c.args.line_idx e.first e.later

pub returns-clause-stands : goal.returns-clause-stands
returns-clause-stands c =
    let r = c.chunk_of_break-chunk.result in
    let e = c.chunk_of_break-chunk.ensures in
    rw c.to_byte_idx.ensures (line_placed (slice_pieces c.args.self.now) r.text.now r.start e.utf8 e.cut (places_of_a_part-lines is_break) (to_byte_idx_is_a_boundary-lines is_break) c.args.line_idx e.first e.later).stands

pub returns-clause-place : goal.returns-clause-place
returns-clause-place c =
    let r = c.chunk_of_break-chunk.result in
    let e = c.chunk_of_break-chunk.ensures in
    rw c.to_byte_idx.ensures (line_placed (slice_pieces c.args.self.now) r.text.now r.start e.utf8 e.cut (places_of_a_part-lines is_break) (to_byte_idx_is_a_boundary-lines is_break) c.args.line_idx e.first e.later).place_is

pub returns-clause-boundary : goal.returns-clause-boundary
returns-clause-boundary c =
    let r = c.chunk_of_break-chunk.result in
    rw c.to_byte_idx.ensures (end_is_boundary (break_ends is_break) (to_byte_idx_is_a_boundary-lines is_break) r.text.now c.chunk_of_break-chunk.ensures.utf8 (c.args.line_idx - r.start.breaks))
