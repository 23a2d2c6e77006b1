use Rattle.std.proofs.Common.{bit_and}
use Rattle.str_indices.proofs.Vectors.{HasLanes-zip2}
use Rattle.str_indices.proofs.byte_chunk.wide.U8x64ByteChunk.bitand.Goals as goal

pub returns : goal.returns
returns c = HasLanes-zip2 64 bit_and c.args.self c.args.other c.fits-self.0 c.fits-other.0
