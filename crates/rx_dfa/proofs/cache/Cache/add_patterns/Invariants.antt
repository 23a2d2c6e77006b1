use Rattle.std.proofs.Common.{◌≡◌, ℕ, ◌<◌, Some, slice_get}
use Rattle.rx_dfa.specs.Automata.{directed}
use Rattle.rx_dfa.specs.Tables.{HoldsBy}
use Rattle.rx_dfa.specs.DenseTables.{HasStartsFrom}
use Rattle.rx_dfa.proofs.cache.Cache.add_patterns.Given as goal

-- the start states of the patterns so far are there
abbrev pub invariant-loop-start : goal.invariant-loop-start
invariant-loop-start l = record {
  made : HoldsBy l.automaton l.self;
  starts : (k q : ℕ) → k < l.start-index → slice_get (directed l.automaton).bytes.patterns k ≡ Some q → HasStartsFrom (directed l.automaton) l.automaton.alphabet.now l.self.states q;
}
