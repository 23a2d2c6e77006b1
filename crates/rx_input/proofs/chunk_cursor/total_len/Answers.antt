use Rattle.std.proofs.Common.{arith, []}
use Rattle.rx_input.proofs.ChunkLemmas.{counts_more}
use Rattle.rx_input.proofs.chunk_cursor.total_len.Goals as goal

pub overflow_add-total : goal.overflow_add-total
overflow_add-total c = omega (arith, counts_more c.args.chunks.now c.loop-chunk.chunk-index (record { ref_ptr = (0, 0); now = [] }) c.loop-chunk-test.true, c.loop-chunk.invariant, c.requires)
