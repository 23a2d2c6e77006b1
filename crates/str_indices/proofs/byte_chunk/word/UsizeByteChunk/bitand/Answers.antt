use Rattle.std.proofs.Common.{refl}
use Rattle.str_indices.proofs.Words.{low_bytes-bit_and}
use Rattle.str_indices.proofs.byte_chunk.word.UsizeByteChunk.bitand.Goals as goal

pub returns : goal.returns
returns c = record { long = refl; each = λ k l. low_bytes-bit_and 8 c.args.self c.args.other k }
