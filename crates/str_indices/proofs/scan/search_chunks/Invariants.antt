use Rattle.std.proofs.Common.{◌≡◌, ◌-◌, ◌≤◌, length, sum, take}
use Rattle.str_indices.proofs.scan.search_chunks.Given as goal

abbrev pub invariant-loop-lane : goal.invariant-loop-lane
invariant-loop-lane g l = record {
  none : sum (take l.at (g.M.Measure.weights l.bytes)) ≡ 0;
  low : l.from ≤ l.at;
  high : l.at ≤ length l.bytes;
}

abbrev pub decreases-loop-lane : goal.decreases-loop-lane
decreases-loop-lane g l = l.last - l.at
