use Rattle.std.proofs.Common.{refl}
use Rattle.str_indices.proofs.Words.{low_bytes-add}
use Rattle.str_indices.proofs.byte_chunk.word.UsizeByteChunk.add.Goals as goal

pub returns : goal.returns
returns c = record { long = refl; each = λ k l. low_bytes-add 8 c.args.self c.args.other k c.requires l }
