-- Which look-around assertions a program contains.
use Rattle.std.specs.Prelude.{Bool, true, false, List, IsTrue}
use Rattle.rx_walks.specs.Looks as walks
use Rattle.rx_walks.specs.Looks.{start_line, end_line}
use Rattle.rx_program.specs.declared.states.State.{State}
use Rattle.rx_program.specs.declared.states.State.TheVariants as state
use Rattle.rx_program.specs.Code.{place_of}
use Rattle.rx_steps.specs.Lists.{Asks}

abbrev pub is_look : walks.Look → Bool
is_look l = true

-- a line assertion; a word assertion reads characters
abbrev pub is_of_lines : walks.Look → Bool
is_of_lines start_line = true
is_of_lines end_line = true
is_of_lines _ = false

-- some state is an assertion of this kind
abbrev pub AsksSome : List State → (walks.Look → Bool) → Type 0
AsksSome states kind = (l : walks.Look) × IsTrue (kind l) × Asks states l

-- whether this state is one
abbrev pub asks_for : (walks.Look → Bool) → State → Bool
asks_for kind (state.Look asked next) = kind (place_of asked)
asks_for kind _ = false
