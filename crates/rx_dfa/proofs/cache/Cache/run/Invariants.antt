use Rattle.std.proofs.Common.{◌≡◌, Some, take, slice_get}
use Rattle.rx_dfa.specs.declared.states.AutomatonState.{AutomatonState}
use Rattle.rx_dfa.specs.Passing.{IsRunning}
use Rattle.rx_dfa.proofs.cache.Cache.run.Given as goal

-- the bytes so far lead to the row
abbrev pub invariant-loop-byte : goal.invariant-loop-byte
invariant-loop-byte l = record {
  running : (x : AutomatonState) → slice_get l.self.states l.first ≡ Some x → IsRunning l.automaton l.self (record { first = x; at = l.at; met = l.fn.met; bytes = take l.len l.bytes; row = l.row; end = l.end });
  len : l.len ≡ l.byte-index;
}
