-- Automata: programs, each with its direction and its alphabet.
use Rattle.std.specs.Prelude.{◌≡◌, true, false}
use Rattle.rx_program.specs.Programs.{IsByteProgram}
use Rattle.rx_dfa.specs.declared.automaton.Automaton.{Automaton}
use Rattle.rx_dfa.specs.declared.automaton.Way.{Way}
use Rattle.rx_dfa.specs.declared.automaton.Way.TheVariants.{Forward, Back}
use Rattle.rx_dfa.specs.Directions.{Directed, backward, forward}
use Rattle.rx_dfa.specs.Alphabets.{TellsApart}

abbrev pub directed_by : Way → Directed
directed_by (Forward program) = forward program.now
directed_by (Back reverse) = backward reverse.now

-- the program of an automaton, with its direction
abbrev pub directed : Automaton → Directed
directed a = directed_by a.way

-- the alphabet is the program's
abbrev pub IsAutomaton : Automaton → Type 0
IsAutomaton a = TellsApart (directed a).bytes a.alphabet.now

-- it reads backward, and a walk may start inside a character
pub record ReadsBack (a : Automaton) : Type 0 where
  pub is : IsAutomaton a
  pub way : (directed a).is_back ≡ true
  pub anywhere : a.alphabet.now.utf8_empty ≡ false

-- it reads forward, and its program's automata read the characters of their sets
pub record ReadsForward (a : Automaton) : Type 0 where
  pub reads : IsByteProgram (directed a).bytes
  pub way : (directed a).is_back ≡ false
