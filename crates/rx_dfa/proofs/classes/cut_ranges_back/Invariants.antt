use Rattle.std.proofs.Common.{ℕ, ◌<◌, [], get_or}
use Rattle.rx_dfa.specs.Classes.{RowIsCut, HasMoreCuts}
use Rattle.rx_dfa.proofs.classes.cut_ranges_back.Given as goal

abbrev pub invariant-loop-number : goal.invariant-loop-number
invariant-loop-number l = record {
  cut : (s : ℕ) → s < l.number → RowIsCut l.cuts (get_or l.automaton.rows s []);
  more : HasMoreCuts l.fn.cuts l.cuts;
}
