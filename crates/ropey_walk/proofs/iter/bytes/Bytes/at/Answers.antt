use Rattle.ropey_walk.specs.Slices.{slice_pieces}
use Rattle.ropey_walk.proofs.ByteWalks.{chunk_at_byte}
use Rattle.ropey_walk.proofs.iter.bytes.Bytes.at.Goals as goal

pub invariant_of-result : goal.invariant_of-result
invariant_of-result c =
    let chunk = c.chunk_near-chunk.result in
    let e = c.chunk_near-chunk.ensures in
    let holds = chunk_at_byte (slice_pieces c.args.slice) c.args.byte_idx chunk.text.now chunk.start e.utf8 e.stands e.cut c.requires in
    (holds.part, holds.within, c.len_bytes.ensures.bytes, c.len_bytes.ensures.fits, e.near)
