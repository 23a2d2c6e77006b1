use Rattle.std.proofs.Common.{◌≤◌}
use Rattle.rx_input.specs.Chunks.{SameBefore}
use Rattle.rx_input.proofs.chunk_cursor.last_filled.Given as goal

-- the chunks so far are empty
abbrev pub invariant-loop-before : goal.invariant-loop-before
invariant-loop-before l = record {
  within : l.before ≤ l.fn.before;
  skipped : SameBefore l.chunks l.before l.fn.before;
}

abbrev pub decreases-loop-before : goal.decreases-loop-before
decreases-loop-before l = l.before
