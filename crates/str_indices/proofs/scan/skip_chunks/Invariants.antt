use Rattle.std.proofs.Common.{◌≡◌, ◌-◌, ◌≤◌, length, sum, take}
use Rattle.str_indices.proofs.scan.skip_chunks.Given as goal

abbrev pub invariant-loop-sum : goal.invariant-loop-sum
invariant-loop-sum g l = record {
  counted : l.count ≡ sum (take l.at (g.M.Measure.weights l.bytes));
  below : l.count ≤ l.k;
  low : l.from ≤ l.at;
  high : l.at ≤ length l.bytes;
}

abbrev pub decreases-loop-sum : goal.decreases-loop-sum
decreases-loop-sum g l = l.last - l.at
