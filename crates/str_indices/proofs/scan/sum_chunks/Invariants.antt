use Rattle.std.proofs.Common.{◌≡◌, ◌+◌, ◌-◌, ◌*◌, ◌<◌, ◌≤◌, length, sum, take}
use Rattle.str_indices.specs.Lanes.{LanesUpTo}
use Rattle.str_indices.proofs.scan.sum_chunks.Given as goal

abbrev pub invariant-loop-taken : goal.invariant-loop-taken
invariant-loop-taken g l =
    let lanes = g.C.ByteChunk.lanes l.acc in
    let size = g.C.ByteChunk.SIZE in
    record {
      long : length lanes ≡ size;
      small : LanesUpTo (2 * l.taken) lanes;
      counted : sum (take l.from (g.M.Measure.weights l.bytes)) + sum lanes ≡ sum (take l.at (g.M.Measure.weights l.bytes));
      taken : l.taken ≤ l.limit;
      low : l.from ≤ l.at;
      high : l.at ≤ l.last;
      none : l.taken ≡ 0 → l.at ≡ l.from;
      one : l.taken ≡ 1 → l.at ≡ l.from + size;
      some : 0 < l.taken → l.from + size ≤ l.at;
    }

abbrev pub decreases-loop-taken : goal.decreases-loop-taken
decreases-loop-taken g l = l.limit - l.taken
