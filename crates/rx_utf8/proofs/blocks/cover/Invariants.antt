use Rattle.std.proofs.Common.{ℕ, ◌≡◌, ◌≤◌, drop}
use Rattle.rx_sets.specs.Sets.{in_ranges}
use Rattle.rx_utf8.proofs.blocks.cover.Given as goal

-- the code points between are in no range so far
abbrev pub invariant-loop-range : goal.invariant-loop-range
invariant-loop-range l = (c : ℕ) → l.low ≤ c → c ≤ l.high → in_ranges (drop l.range-index l.ranges) c ≡ in_ranges l.ranges c
