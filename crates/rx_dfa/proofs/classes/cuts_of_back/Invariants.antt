use Rattle.std.proofs.Common.{All, map, take}
use Rattle.rx_steps.specs.Reversed.{state_of}
use Rattle.rx_dfa.specs.Classes.{LooksAreCut, StateIsCut}
use Rattle.rx_dfa.proofs.classes.cuts_of_back.Given as goal

abbrev pub invariant-loop-state : goal.invariant-loop-state
invariant-loop-state l = record {
  looks : LooksAreCut l.fn.asked l.reverse.line_terminator l.cuts;
  cut : All (StateIsCut l.cuts) (take l.state-index (map state_of l.reverse.states));
}
