use Rattle.std.proofs.Common.{◌+◌, length, ap, arith}
use Rattle.std.proofs.lemmas.List.FromFn.{length-map-range_with_len}
use Rattle.ropey_walk.specs.Chunks.{line_breaks}
use Rattle.ropey_walk.specs.Lines.{line_pieces, lines_of}
use Rattle.ropey_walk.specs.Slices.{slice_pieces, slice_text}
use Rattle.ropey_walk.proofs.TwoWay.{faces_on, faces_back, ahead_count, behind_count}
use Rattle.ropey_walk.proofs.iter.lines.LinesExactSizeIterator.len.Goals as goal

pub returns-then-self-clause-value : goal.returns-then-self-clause-value
returns-then-self-clause-value c =
    let pieces = slice_pieces c.self.inside.slice in
    let k = c.self.inside.place.line_idx in
    let all = length-map-range_with_len (line_pieces pieces) 0 (line_breaks (slice_text c.self.inside.slice) + 1) in
    let seen = faces_back c.self.inside.is_reversed k (lines_of pieces) c.args.self.now c.if-self.true c.self.view_is in
    omega (arith, ap (λ w. length w.ahead) seen, behind_count (lines_of pieces) k (omega (arith, all, c.self.invariant.2, c.self.invariant.3)))

pub returns-else-self-clause-value : goal.returns-else-self-clause-value
returns-else-self-clause-value c =
    let pieces = slice_pieces c.self.inside.slice in
    let k = c.self.inside.place.line_idx in
    let all = length-map-range_with_len (line_pieces pieces) 0 (line_breaks (slice_text c.self.inside.slice) + 1) in
    let seen = faces_on c.self.inside.is_reversed k (lines_of pieces) c.args.self.now c.if-self.false c.self.view_is in
    omega (arith, ap (λ w. length w.ahead) seen, ahead_count (lines_of pieces) k, all, c.self.invariant.3)
