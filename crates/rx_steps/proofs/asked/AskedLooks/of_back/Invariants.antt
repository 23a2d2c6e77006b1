use Rattle.std.proofs.Common.{map}
use Rattle.rx_walks.specs.Looks.{asks_characters}
use Rattle.rx_steps.specs.Asked.{is_look, is_of_lines}
use Rattle.rx_steps.specs.Reversed.{state_of}
use Rattle.rx_steps.proofs.AskedLaws.{IsTold}
use Rattle.rx_steps.proofs.asked.AskedLooks.of_back.Given as goal

-- the assertions of the states so far
abbrev pub invariant-loop-state : goal.invariant-loop-state
invariant-loop-state l = record {
  any : IsTold (map state_of l.states) is_look l.state-index l.asked.any;
  lines : IsTold (map state_of l.states) is_of_lines l.state-index l.asked.lines;
  words : IsTold (map state_of l.states) asks_characters l.state-index l.asked.words;
}
