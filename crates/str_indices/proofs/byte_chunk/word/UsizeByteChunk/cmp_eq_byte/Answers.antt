use Rattle.std.proofs.Common.{◌∙◌, get_or}
use Rattle.str_indices.specs.Lanes.{low_bytes}
use Rattle.str_indices.proofs.Words.{between_itself}
use Rattle.str_indices.proofs.byte_chunk.word.UsizeByteChunk.cmp_eq_byte.Goals as goal

pub returns : goal.returns
returns c = record {
  long = c.bytes_between.ensures.long;
  each = λ k l. c.bytes_between.ensures.each k l ∙ between_itself (get_or (low_bytes 8 c.args.self) k 0) c.args.byte;
}
