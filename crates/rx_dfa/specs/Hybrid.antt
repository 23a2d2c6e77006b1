-- Engines that search with lazy automata, whose states are computed when a search reaches them.
use Rattle.std.specs.Prelude.{◌≡◌, ℕ}
use Rattle.rx_engine.specs.Engines.{Engine}
use Rattle.rx_program.specs.Reversed.{ReverseByteProgram}
use Rattle.rx_steps.specs.Reversed.{IsReverseOf}
use Rattle.rx_dfa.specs.Alphabets.{AlphabetView, IsAlphabetBack, IsAlphabetOf}
use Rattle.rx_dfa.specs.BackCaches.{BackCacheView, IsBackCacheOf}
use Rattle.rx_dfa.specs.Caches.{CacheView, IsCacheOf}
use Rattle.rx_dfa.specs.Directions.{forward}

-- an engine, the alphabet of its program, and the reverse program with its alphabet
pub record HybridView : Type 0 where
  pub engine : Engine
  pub dfa : AlphabetView
  pub reverse : ReverseByteProgram
  pub back : AlphabetView

-- both skip the same empty matches, and the reverse program is that of the engine's
pub record IsHybrid (re : HybridView) : Type 0 where
  pub dfa : IsAlphabetOf re.engine.program re.dfa
  pub utf8_empty : re.dfa.utf8_empty ≡ re.engine.utf8_empty
  pub reverse : IsReverseOf re.engine.program re.reverse
  pub back : IsAlphabetBack re.reverse re.back

-- the states of either automaton may take about this many bytes
pub record HasCapacity (capacity : ℕ) (re : HybridView) : Type 0 where
  pub dfa : re.dfa.capacity ≡ capacity
  pub back : re.back.capacity ≡ capacity

-- the states that forward searches reached, and what backward searches keep
pub record HybridCacheView : Type 0 where
  pub states : CacheView
  pub back : BackCacheView

-- a cache for searches with an engine in both directions
pub record IsHybridCacheOf (re : HybridView) (cache : HybridCacheView) : Type 0 where
  pub states : IsCacheOf (forward re.engine.program) re.dfa cache.states
  pub back : IsBackCacheOf re.reverse re.back cache.back
