use Rattle.rx_input.specs.Chunks.{SameBefore}
use Rattle.rx_input.proofs.chunk_cursor.first_filled.Given as goal

-- the chunks so far are empty
abbrev pub invariant-loop-index : goal.invariant-loop-index
invariant-loop-index l = SameBefore l.chunks l.index l.from
