use Rattle.std.proofs.Common.{◌≡◌, ◌-◌, ◌<◌, ◌≤◌, Some, length, take, slice_get}
use Rattle.rx_dfa.specs.declared.states.AutomatonState.{AutomatonState}
use Rattle.rx_dfa.specs.Passing.{HasPassed}
use Rattle.rx_dfa.specs.Tables.{IsTable}
use Rattle.rx_dfa.proofs.scan.scan.Given as goal

-- the bytes so far lead to the state
abbrev pub invariant-loop-len : goal.invariant-loop-len
invariant-loop-len g l = record {
  table : IsTable g.T.Table.is_whole l.automaton (g.T.Table.shown l.table);
  number : l.number < length (g.T.Table.shown l.table).states;
  len : l.len ≤ length l.bytes;
  passed : (x : AutomatonState) → slice_get (g.T.Table.shown l.fn.table).states l.first ≡ Some x → HasPassed l.automaton (g.T.Table.shown l.table).states x (take l.len l.bytes) l.at l.fn.met l.number l.met;
}

abbrev pub decreases-loop-len : goal.decreases-loop-len
decreases-loop-len g l = length l.bytes - l.len
