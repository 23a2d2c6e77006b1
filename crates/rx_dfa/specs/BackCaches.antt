-- What backward searches keep between searches.
use Rattle.rx_program.specs.Reversed.{ReverseByteProgram}
use Rattle.rx_steps.specs.ComingBack.{IsReverseCacheOf, ReverseCacheView}
use Rattle.rx_dfa.specs.Alphabets.{AlphabetView}
use Rattle.rx_dfa.specs.Caches.{CacheView, IsCacheOf}
use Rattle.rx_dfa.specs.Directions.{backward}

-- the states of an automaton, and room for following threads
pub record BackCacheView : Type 0 where
  pub states : CacheView
  pub room : ReverseCacheView

-- they are for backward searches with this reverse program
pub record IsBackCacheOf (turned : ReverseByteProgram) (alphabet : AlphabetView)
    (cache : BackCacheView) : Type 0 where
  pub states : IsCacheOf (backward turned) alphabet cache.states
  pub room : IsReverseCacheOf turned cache.room
