use Rattle.std.proofs.Common.{◌≡◌, ◌-◌, ◌≤◌, false, length, take, drop}
use Rattle.rx_sets.specs.Sets.{in_ranges}
use Rattle.rx_sets.proofs.character_set.CharacterSet.contains.Given as goal

-- the ordinal isn't in the ranges before `low`, nor in those from `high` on
abbrev pub invariant-loop-low : goal.invariant-loop-low
invariant-loop-low l = record {
  ordered : l.low ≤ l.high;
  in_bounds : l.high ≤ length l.self-inside.ranges.items;
  before : in_ranges (take l.low l.self-inside.ranges.items) l.ordinal ≡ false;
  after : in_ranges (drop l.high l.self-inside.ranges.items) l.ordinal ≡ false;
}

abbrev pub decreases-loop-low : goal.decreases-loop-low
decreases-loop-low l = l.high - l.low
