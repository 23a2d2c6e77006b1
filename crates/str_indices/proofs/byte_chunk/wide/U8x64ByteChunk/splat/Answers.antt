use Rattle.std.proofs.lemmas.Simd.{get_or-replicate, length-replicate}
use Rattle.str_indices.proofs.byte_chunk.wide.U8x64ByteChunk.splat.Goals as goal

pub returns : goal.returns
returns c = record { long = length-replicate 64 c.args.byte; each = λ k l. get_or-replicate 64 k c.args.byte 0 l }
