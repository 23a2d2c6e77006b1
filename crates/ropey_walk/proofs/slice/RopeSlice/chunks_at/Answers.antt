use Rattle.std.proofs.Common.{◌<◌, ap, arith}
use Rattle.ropey_tree.specs.Counts.{counts_of, amount}
use Rattle.ropey_walk.specs.Slices.{slice_pieces, slice_text}
use Rattle.ropey_walk.proofs.ChunkWalks.{all_parts, chunk_parts, stands_before, stands_behind}
use Rattle.ropey_walk.proofs.slice.RopeSlice.chunks_at.Goals as goal

pub at-requires : goal.at-requires
at-requires c = all_parts (slice_pieces c.args.self.now) c.counts-len.result.bytes (ap (λ n. n.bytes) c.counts-len.ensures.counts)

pub at-requires-2 : goal.at-requires-2
at-requires-2 c = chunk_parts (slice_pieces c.args.self.now) c.args.by c.args.i _ c.chunk.result.start c.chunk.ensures.stands

pub returns-then-i-by : goal.returns-then-i-by
returns-then-i-by c =
    rw c.at.ensures.place (stands_behind (slice_pieces c.args.self.now) c.args.by c.args.i c.counts-len.result c.at.ensures.cut.cut c.counts-len.ensures.counts (omega (arith, c.if-i-by.true, c.by.ensures)))

pub returns : goal.returns
returns c =
    let more : c.args.i < amount c.args.by (counts_of (slice_text c.args.self.now)) = omega (arith, c.if-i-by.false, c.by.ensures, ap (λ n. amount c.args.by n) c.counts-len.ensures.counts) in
    rw c.at-2.ensures.place (stands_before (slice_pieces c.args.self.now) c.args.by c.args.i _ c.chunk.result.start c.chunk.ensures.cut.cut c.chunk.ensures.stands more)
