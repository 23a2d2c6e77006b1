use Rattle.std.proofs.Common.{◌-◌, sym, ◌∙◌, arith}
use Rattle.str_indices.proofs.Vectors.{HasLanes-zip2, Each2-from_each}
use Rattle.str_indices.proofs.byte_chunk.wide.U8x64ByteChunk.sub.Goals as goal

pub overflow_sub-result : goal.overflow_sub-result
overflow_sub-result c = Each2-from_each _ c.args.self c.args.other 0 0 (c.fits-self.0 ∙ sym c.fits-other.0) (λ i l. c.requires i (omega arith))

pub returns : goal.returns
returns c = HasLanes-zip2 64 (λ a b. a - b) c.args.self c.args.other c.fits-self.0 c.fits-other.0
