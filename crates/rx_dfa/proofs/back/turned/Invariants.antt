use Rattle.std.proofs.Common.{ℕ, ◌≡◌, ◌-◌, ◌<◌, get_or, length}
use Rattle.rx_dfa.proofs.back.turned.Given as goal

-- the bytes so far are reversed
abbrev pub invariant-loop-index : goal.invariant-loop-index
invariant-loop-index l = record {
  long : length l.bytes ≡ 64;
  each : (k : ℕ) → k < l.index → get_or l.bytes k 0 ≡ get_or l.piece (length l.piece - 1 - k) 0;
}
