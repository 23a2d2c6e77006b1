use Rattle.std.proofs.lemmas.Simd.{length-chunk, get_or-chunk}
use Rattle.str_indices.proofs.byte_chunk.wide.U8x64ByteChunk.load.Goals as goal

pub returns : goal.returns
returns c = record { long = length-chunk c.args.at 64 c.args.bytes.now c.requires; each = λ k l. get_or-chunk c.args.at 64 c.args.bytes.now k 0 l }
