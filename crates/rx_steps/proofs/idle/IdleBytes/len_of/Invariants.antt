use Rattle.std.proofs.Common.{ℕ, ◌≡◌, ◌<◌}
use Rattle.rx_steps.specs.Idle.{IsPassedAt}
use Rattle.rx_steps.proofs.idle.IdleBytes.len_of.Given as goal

-- all bytes so far can be skipped
abbrev pub invariant-loop-byte : goal.invariant-loop-byte
invariant-loop-byte l = record {
  so_far : l.len ≡ l.byte-index;
  passed : (k : ℕ) → k < l.len → IsPassedAt l.self l.utf8_empty l.bytes k;
}
