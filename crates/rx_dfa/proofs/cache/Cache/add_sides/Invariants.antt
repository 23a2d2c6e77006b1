use Rattle.std.proofs.Common.{ℕ, ◌<◌, slice_get}
use Rattle.rx_dfa.specs.Automata.{directed}
use Rattle.rx_dfa.specs.Behind.{behind_of}
use Rattle.rx_dfa.specs.Tables.{HoldsBy}
use Rattle.rx_dfa.specs.Caches.{KeepNumbers}
use Rattle.rx_dfa.specs.DenseTables.{HasStarts}
use Rattle.rx_dfa.proofs.cache.Cache.add_sides.Given as goal

-- the start states for the columns so far are there
abbrev pub invariant-loop-column : goal.invariant-loop-column
invariant-loop-column l = record {
  made : HoldsBy l.automaton l.self;
  kept : KeepNumbers l.fn.self.states l.self.states;
  starts : (k : ℕ) → k < l.column → HasStarts (directed l.automaton).is_back l.self.states l.start (behind_of l.automaton.alphabet.now.asked (directed l.automaton).bytes.line_terminator (slice_get l.automaton.alphabet.now.classes.bytes k));
}
