use Rattle.std.proofs.Common.{refl}
use Rattle.str_indices.proofs.Words.{low_bytes-read}
use Rattle.str_indices.proofs.byte_chunk.word.UsizeByteChunk.load.Goals as goal

pub returns : goal.returns
returns c = record { long = refl; each = λ k l. low_bytes-read c.args.bytes.now c.args.at c.from_le_bytes.result k (λ i. (c.type_inv.bytes i).fits) c.from_le_bytes.ensures l }
