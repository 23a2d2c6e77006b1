use Rattle.std.proofs.Common.{ℕ, ◌≡◌, ◌≤◌, drop}
use Rattle.rx_sets.specs.Sets.{in_ranges}
use Rattle.rx_utf8.proofs.blocks.run.Given as goal

-- the code points up to the last one are in no range so far
abbrev pub invariant-loop-range : goal.invariant-loop-range
invariant-loop-range l = record {
  from : l.code ≤ l.last;
  to : l.last ≤ l.high;
  same : (c : ℕ) → l.code ≤ c → c ≤ l.last → in_ranges (drop l.range-index l.ranges) c ≡ in_ranges l.ranges c;
}
