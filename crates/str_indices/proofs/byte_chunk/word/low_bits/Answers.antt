use Rattle.std.proofs.Common.{refl}
use Rattle.str_indices.proofs.Words.{low_bytes-low_bits}
use Rattle.str_indices.proofs.byte_chunk.word.low_bits.Goals as goal

pub returns : goal.returns
returns c = record { long = refl; each = λ k l. low_bytes-low_bits c.args.word k l }
