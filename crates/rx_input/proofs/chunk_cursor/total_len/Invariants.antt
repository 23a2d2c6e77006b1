use Rattle.std.proofs.Common.{◌≡◌, length, take}
use Rattle.rx_input.specs.Chunks.{joined}
use Rattle.rx_input.proofs.chunk_cursor.total_len.Given as goal

abbrev pub invariant-loop-chunk : goal.invariant-loop-chunk
invariant-loop-chunk l = l.total ≡ length (joined (take l.chunk-index l.chunks))
