use Rattle.std.proofs.Common.{◌≡◌, sum, take}
use Rattle.str_indices.proofs.scan.search_bytes.Given as goal

abbrev pub invariant-loop-at : goal.invariant-loop-at
invariant-loop-at g l = sum (take l.at (g.M.Measure.weights l.bytes)) ≡ 0
