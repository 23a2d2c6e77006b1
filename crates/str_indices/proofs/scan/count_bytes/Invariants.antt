use Rattle.std.proofs.Common.{◌≡◌, ◌+◌, ◌-◌, ◌*◌, ◌≤◌, sum, take}
use Rattle.str_indices.proofs.scan.count_bytes.Given as goal

abbrev pub invariant-loop-at : goal.invariant-loop-at
invariant-loop-at g l = record {
  counted : sum (take l.from (g.M.Measure.weights l.bytes)) + l.count ≡ sum (take l.at (g.M.Measure.weights l.bytes));
  small : l.count ≤ 2 * (l.at - l.from);
  turns : l.turns ≡ l.initial.turns + (l.at - l.from);
}
