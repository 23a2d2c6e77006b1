-- Reverse programs with all states and steps of their automata.
use Rattle.std.specs.Prelude.{ℕ, Option, Some, None, IfSome}
use Rattle.rx_program.specs.Reversed.{ReverseByteProgram}
use Rattle.rx_dfa.specs.Alphabets.{AlphabetView, IsAlphabetBack}
use Rattle.rx_dfa.specs.Caches.{CacheView}
use Rattle.rx_dfa.specs.DenseTables.{IsClosedOf}
use Rattle.rx_dfa.specs.Directions.{backward}

-- a reverse program, the alphabet of its automaton, and all states and steps of that, if they are
-- computed
pub record BackTableView : Type 0 where
  pub reverse : ReverseByteProgram
  pub alphabet : AlphabetView
  pub closed : Option CacheView

-- the alphabet and the states are those of the program
pub record IsBackTable (back : BackTableView) : Type 0 where
  pub alphabet : IsAlphabetBack back.reverse back.alphabet
  pub closed : IfSome back.closed (IsClosedOf (backward back.reverse) back.alphabet)

-- the approximate number of bytes of the states, if they are computed
abbrev pub used_by : Option CacheView → ℕ
used_by None = 0
used_by (Some closed) = closed.used
