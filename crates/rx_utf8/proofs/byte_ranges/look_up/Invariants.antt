use Rattle.std.proofs.Common.{◌≡◌, ℕ, drop}
use Rattle.rx_utf8.specs.Automata.{look_up, RiseWithin}
use Rattle.rx_utf8.proofs.byte_ranges.look_up.Given as goal

-- the byte leads where the remaining ranges lead it, which are in order
abbrev pub invariant-loop-range : goal.invariant-loop-range
invariant-loop-range l = record {
  leads : look_up (drop l.range-index l.row) l.byte ≡ look_up l.row l.byte;
  rises : (low : ℕ) × RiseWithin low 256 (drop l.range-index l.row);
}
