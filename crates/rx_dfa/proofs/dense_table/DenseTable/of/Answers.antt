use Rattle.rx_dfa.specs.Automata.{directed}
use Rattle.rx_dfa.proofs.DenseLaws.{all_starts_still}
use Rattle.rx_dfa.proofs.dense_table.DenseTable.of.Goals as goal

pub returns-then-is_closed-clause-made : goal.returns-then-is_closed-clause-made
returns-then-is_closed-clause-made c = record {
  made = c.close.ensures.made;
  starts = all_starts_still (directed c.args.automaton.now) c.args.automaton.now.alphabet.now c.add_all_starts.new.self.states c.close.new.self.states c.in_ok-is_closed.ensures.kept c.in_ok-add_all_starts.ensures.starts;
  known = c.in_ok-is_closed.ensures.known c.if-is_closed.true;
}
