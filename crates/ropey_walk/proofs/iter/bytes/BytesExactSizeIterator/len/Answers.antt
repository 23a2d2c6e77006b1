use Rattle.std.proofs.Common.{arith}
use Rattle.std.specs.Prelude.{encode_utf8_all}
use Rattle.ropey_walk.specs.Slices.{slice_text}
use Rattle.ropey_walk.proofs.ByteWalks.{part_within}
use Rattle.ropey_walk.proofs.iter.bytes.BytesExactSizeIterator.len.Goals as goal

pub overflow_add-place : goal.overflow_add-place
overflow_add-place c =
    let bytes = c.self.inside in
    let held = c.self.invariant in
    omega (arith, part_within (encode_utf8_all (slice_text bytes.slice)) bytes.chunk.now bytes.start held.0, held.1, held.2, held.3)
