use Rattle.rx_dfa.specs.Automata.{directed}
use Rattle.rx_dfa.proofs.TableLaws.{cache_begins}
use Rattle.rx_dfa.proofs.cache.CacheTable.first.Goals as goal

pub returns-in-Some-clause-table : goal.returns-in-Some-clause-table
returns-in-Some-clause-table c = cache_begins (directed c.args.automaton.now) c.args.automaton.now.alphabet.now c.args.self.now c.begin.new.self c.begin.ensures c.requires.table

pub number_of-requires-clause-made : goal.number_of-requires-clause-made
number_of-requires-clause-made c = cache_begins (directed c.args.automaton.now) c.args.automaton.now.alphabet.now c.args.self.now c.begin.new.self c.begin.ensures c.requires.table
