use Rattle.std.proofs.Common.{◌≡◌, ◌+◌, ◌-◌, ◌≤◌, sum, take}
use Rattle.str_indices.proofs.scan.skip_bytes.Given as goal

abbrev pub invariant-loop-at : goal.invariant-loop-at
invariant-loop-at g l = record {
  counted : l.count ≡ sum (take l.at (g.M.Measure.weights l.bytes));
  below : l.count ≤ l.k;
  turns : l.turns ≡ l.initial.turns + (l.at - l.from);
}
