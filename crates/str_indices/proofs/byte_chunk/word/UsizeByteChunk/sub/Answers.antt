use Rattle.std.proofs.Common.{refl}
use Rattle.str_indices.proofs.Words.{low_bytes-sub}
use Rattle.str_indices.proofs.byte_chunk.word.UsizeByteChunk.sub.Goals as goal

pub returns : goal.returns
returns c = record { long = refl; each = λ k l. low_bytes-sub 8 c.args.self c.args.other k c.ranges.other.fits c.requires l }
