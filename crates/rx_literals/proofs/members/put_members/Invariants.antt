use Rattle.std.proofs.Common.{◌<◌, ◌≤◌, ℕ, Contains}
use Rattle.std.specs.Char.{IsScalar}
use Rattle.rx_sets.specs.Sets.{ordinal}
use Rattle.rx_literals.proofs.members.put_members.Given as goal

abbrev pub invariant-loop-ordinal : goal.invariant-loop-ordinal
invariant-loop-ordinal l = record {
  kept : (c : ℕ) → Contains l.fn.members.items c → Contains l.members.items c;
  put : (c : ℕ) → IsScalar c → l.first ≤ ordinal c → ordinal c < l.ordinal → Contains l.members.items c;
}
