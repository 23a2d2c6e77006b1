-- Engines that search with dense automata.
use Rattle.std.specs.Prelude.{◌≡◌}
use Rattle.rx_engine.specs.Engines.{Engine}
use Rattle.rx_steps.specs.Reversed.{IsReverseOf}
use Rattle.rx_dfa.specs.Alphabets.{AlphabetView, IsAlphabetOf}
use Rattle.rx_dfa.specs.BackTables.{BackTableView}
use Rattle.rx_dfa.specs.Caches.{CacheView}
use Rattle.rx_dfa.specs.Directions.{forward}
use Rattle.rx_dfa.specs.DenseTables.{IsClosedOf}

-- an automaton with all its states and steps, and the reverse program with those of its automaton
pub record AutomatonView : Type 0 where
  pub dfa : AlphabetView
  pub closed : CacheView
  pub back : BackTableView

-- an engine, and the automaton of its program
pub record DenseView : Type 0 where
  pub engine : Engine
  pub automaton : AutomatonView

-- both skip the same empty matches, the automaton is closed, and the reverse program is that of the
-- engine's
pub record IsDense (re : DenseView) : Type 0 where
  pub dfa : IsAlphabetOf re.engine.program re.automaton.dfa
  pub utf8_empty : re.automaton.dfa.utf8_empty ≡ re.engine.utf8_empty
  pub closed : IsClosedOf (forward re.engine.program) re.automaton.dfa re.automaton.closed
  pub reverse : IsReverseOf re.engine.program re.automaton.back.reverse
