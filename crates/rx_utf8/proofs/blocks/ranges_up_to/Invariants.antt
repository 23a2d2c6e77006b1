use Rattle.std.proofs.Common.{ℕ, ◌≡◌, ◌≤◌, length}
use Rattle.rx_sets.specs.Sets.{in_ranges}
use Rattle.rx_utf8.proofs.blocks.ranges_up_to.Given as goal

-- what was left out has no code point up to `high`
abbrev pub invariant-loop-ranges : goal.invariant-loop-ranges
invariant-loop-ranges l = record {
  fewer : length l.ranges ≤ length l.fn.ranges;
  same : (c : ℕ) → c ≤ l.high → in_ranges l.ranges c ≡ in_ranges l.fn.ranges c;
}

abbrev pub decreases-loop-ranges : goal.decreases-loop-ranges
decreases-loop-ranges l = length l.ranges
