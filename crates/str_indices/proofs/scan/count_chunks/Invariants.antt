use Rattle.std.proofs.Common.{◌≡◌, ◌+◌, ◌-◌, ◌≤◌, sum, take}
use Rattle.str_indices.proofs.scan.count_chunks.Given as goal

abbrev pub invariant-loop-at : goal.invariant-loop-at
invariant-loop-at g l = record {
  counted : sum (take l.from (g.M.Measure.weights l.bytes)) + l.count ≡ sum (take l.at (g.M.Measure.weights l.bytes));
  low : l.from ≤ l.at;
  high : l.at ≤ l.end;
}

abbrev pub decreases-loop-at : goal.decreases-loop-at
decreases-loop-at g l = l.last - l.at
