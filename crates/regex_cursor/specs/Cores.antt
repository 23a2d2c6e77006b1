-- What a regex shares with its caches, and what these keep for each engine.
use Rattle.std.specs.Prelude.{◌≡◌, Option, IfSome}
use Rattle.rx_program.specs.Reversed.{ReverseByteProgram}
use Rattle.rx_steps.specs.Caches as steps
use Rattle.rx_steps.specs.Reversed.{IsReverseOf}
use Rattle.rx_dfa.specs.Caches as automata
use Rattle.rx_dfa.specs.Directions.{forward}
use Rattle.rx_dfa.specs.Alphabets.{AlphabetView, IsAlphabetOf}
use Rattle.rx_engine.specs.Engines.{Engine, IsEngine}
use Rattle.regex_cursor.specs.Configs.{RegexSettings, capacity_of}

-- the engine, the automaton of its program, and the settings
pub record CoreView : Type 0 where
  pub vm : Engine
  pub dfa : AlphabetView
  pub settings : RegexSettings

-- the program is that of a tree, both skip the same empty matches, and the automaton's states may
-- take as much room as is set
pub record IsCore (c : CoreView) : Type 0 where
  pub engine : IsEngine c.vm
  pub dfa : IsAlphabetOf c.vm.program c.dfa
  pub utf8_empty : c.dfa.utf8_empty ≡ c.vm.utf8_empty
  pub capacity : c.dfa.capacity ≡ capacity_of c.settings

-- caches for searches by each, and perhaps the reversed program
pub record AreCachesOf (c : CoreView) (vm : steps.CacheView) (automaton : automata.CacheView)
    (back : Option ReverseByteProgram) : Type 0 where
  pub for_vm : steps.IsCacheOf c.vm.program vm
  pub for_automaton : automata.IsCacheOf (forward c.vm.program) c.dfa automaton
  pub turned : IfSome back (IsReverseOf c.vm.program)
