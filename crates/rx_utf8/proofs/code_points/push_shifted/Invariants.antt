use Rattle.std.proofs.Common.{◌≡◌, ℕ, drop}
use Rattle.rx_utf8.specs.Blocks.{shifted_into}
use Rattle.rx_utf8.proofs.code_points.push_shifted.Given as goal

-- the remaining ranges complete the codes
abbrev pub invariant-loop-range : goal.invariant-loop-range
invariant-loop-range l = (c : ℕ) → shifted_into l.codes.items (drop l.range-index l.ranges) l.low l.high l.shift c ≡ shifted_into l.fn.codes.items l.ranges l.low l.high l.shift c
