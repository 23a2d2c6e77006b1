use Rattle.std.proofs.Common.{◌≡◌, ◌<◌, ℕ, true, false, get_or, None}
use Rattle.rx_utf8.specs.Automata.{step_of}
use Rattle.rx_literals.specs.ByteSets.{HasMoreMembers}
use Rattle.rx_literals.proofs.byte_set.put_first_bytes.Given as goal

-- so far each byte that the automaton reads first is a member
abbrev pub invariant-loop-byte : goal.invariant-loop-byte
invariant-loop-byte l = record {
  put : (b : ℕ) → b < l.byte → (step_of l.automaton 0 b ≡ None → ⊥) → get_or l.members b false ≡ true;
  more : HasMoreMembers l.fn.members l.members;
}
