use Rattle.std.proofs.Common.{All, take}
use Rattle.rx_dfa.specs.Classes.{IsCut, HasMoreCuts}
use Rattle.rx_dfa.proofs.classes.cut_row.Given as goal

abbrev pub invariant-loop-range : goal.invariant-loop-range
invariant-loop-range l = record {
  cut : All (IsCut l.cuts) (take l.range-index l.row);
  more : HasMoreCuts l.fn.cuts l.cuts;
}
