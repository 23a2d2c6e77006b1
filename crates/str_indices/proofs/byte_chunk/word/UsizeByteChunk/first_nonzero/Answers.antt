use Rattle.str_indices.proofs.FirstLanes.{low_bytes-first_nonzero}
use Rattle.str_indices.proofs.byte_chunk.word.UsizeByteChunk.first_nonzero.Goals as goal

pub returns : goal.returns
returns c = low_bytes-first_nonzero c.args.self c.ranges.self.fits
