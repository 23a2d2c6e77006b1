use Rattle.std.proofs.Common.{ap, arith, length}
use Rattle.ropey_walk.specs.Slices.{slice_pieces}
use Rattle.ropey_walk.proofs.Reading.{byte_read}
use Rattle.ropey_walk.proofs.slice.RopeSlice.byte.Goals as goal

pub bounds-as_bytes-byte_idx : goal.bounds-as_bytes-byte_idx
bounds-as_bytes-byte_idx c =
    let r = c.chunk-chunk.result in
    let e = c.chunk-chunk.ensures in
    let read = byte_read (slice_pieces c.args.self.now) c.args.byte_idx r.text.now r.start e.utf8 e.stands e.cut c.requires in
    omega (arith, read.within, ap length c.as_bytes.ensures.value)

pub returns : goal.returns
returns c =
    let r = c.chunk-chunk.result in
    let e = c.chunk-chunk.ensures in
    rw c.as_bytes.ensures.value (byte_read (slice_pieces c.args.self.now) c.args.byte_idx r.text.now r.start e.utf8 e.stands e.cut c.requires).is
