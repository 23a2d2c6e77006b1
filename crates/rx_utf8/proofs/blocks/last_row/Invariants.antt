use Rattle.std.proofs.Common.{ℕ, ◌≡◌, ◌≤◌, ◌<◌, ◌+◌, ◌-◌, ◌*◌, cond, Some, None}
use Rattle.rx_sets.specs.Sets.{in_ranges}
use Rattle.rx_utf8.specs.Automata.{look_up, RiseWithin}
use Rattle.rx_utf8.proofs.blocks.last_row.Given as goal

-- the row has the bytes of the code points before
abbrev pub invariant-loop-code : goal.invariant-loop-code
invariant-loop-code l = record {
  from : l.low ≤ l.code;
  to : l.code ≤ l.low + 64;
  leads : (b : ℕ) → 128 ≤ b → b < 128 + (l.code - l.low) → look_up l.row.items b ≡ cond (in_ranges l.ranges (l.value * 64 + (b - 128))) (Some None) None;
  rises : RiseWithin 128 (128 + (l.code - l.low)) l.row.items;
}

abbrev pub decreases-loop-code : goal.decreases-loop-code
decreases-loop-code l = l.low + 64 - l.code
