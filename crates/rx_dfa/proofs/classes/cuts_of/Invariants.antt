use Rattle.std.proofs.Common.{All, take}
use Rattle.rx_dfa.specs.Classes.{LooksAreCut, StateIsCut}
use Rattle.rx_dfa.proofs.classes.cuts_of.Given as goal

abbrev pub invariant-loop-state : goal.invariant-loop-state
invariant-loop-state l = record {
  looks : LooksAreCut l.fn.asked l.program.line_terminator l.cuts;
  cut : All (StateIsCut l.cuts) (take l.state-index l.program.states);
}
