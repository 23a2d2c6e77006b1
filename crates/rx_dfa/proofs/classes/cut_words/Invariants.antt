use Rattle.rx_dfa.specs.Classes.{WordsAreCut, HasMoreCuts}
use Rattle.rx_dfa.proofs.classes.cut_words.Given as goal

-- below this byte words are cut
abbrev pub invariant-loop-byte : goal.invariant-loop-byte
invariant-loop-byte l = record {
  cut : WordsAreCut l.cuts l.byte;
  more : HasMoreCuts l.fn.cuts l.cuts;
}
