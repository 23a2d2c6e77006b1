-- A program in contracts.
use Rattle.std.specs.Prelude.{ℕ, Bool, List, [], ◌∷◌, map, Option, Some, None, slice_get}
use Rattle.rx_program.specs.declared.states.State.{State}
use Rattle.rx_program.specs.declared.states.State.TheVariants as state
use Rattle.rx_sets.specs.Sets.{Range}
use Rattle.rx_utf8.specs.Automata.{step_of, is_in, IsReader}
use Rattle.rx_walks.specs.Looks as walks
use Rattle.rx_walks.specs.Programs.{Node, match, pass, note, look, set, Program}
use Rattle.rx_walks.specs.ProgramFinds.{first_by, machine_of}
use Rattle.rx_walks.specs.Finds.{Search}
use Rattle.rx_walks.specs.Bytes.{Automaton}
use Rattle.rx_walks.specs.Laws.{ReadsMembers, HasWalksOf, byte_machine_of}
use Rattle.rx_program.specs.Code.{place_of}

-- the node of a state
abbrev pub node_of : State → Node walks.Look (List Range)
node_of (state.Ranges automaton next) = set automaton.value.ranges next
node_of (state.Look asked next) = look (place_of asked) next
node_of (state.Empty next) = pass (next ∷ [])
node_of (state.BinaryUnion first second) = pass (first ∷ second ∷ [])
node_of (state.Union alternates) = pass alternates.items
node_of (state.Capture slot next) = note slot next
node_of (state.Match pattern) = match pattern

abbrev pub no_step : Automaton
no_step s b = None

-- the automaton of a state that reads a character
abbrev pub automaton_of : Option State → Automaton
automaton_of (Some (state.Ranges automaton next)) = step_of automaton.value
automaton_of _ = no_step

-- the automaton of a state reads the characters of its set
abbrev pub ReadsItsSet : State → Type 0
ReadsItsSet (state.Ranges automaton next) = IsReader automaton.value
ReadsItsSet _ = Unit {0}

-- a program over bytes: its states, the start state of all patterns, that of each pattern, and the
-- line terminator
pub record ByteProgram : Type 0 where
  pub states : List State
  pub start : ℕ
  pub patterns : List ℕ
  pub line_terminator : ℕ

-- the corresponding program over characters
abbrev pub character_program : ByteProgram → Program walks.Look (List Range)
character_program p = record {
  nodes = map node_of p.states;
  start = p.start;
  patterns = p.patterns;
  line_terminator = p.line_terminator;
}

-- the automaton of each node with a set
abbrev pub automata_of : ByteProgram → ℕ → Automaton
automata_of p q = automaton_of (slice_get p.states q)

-- each automaton reads the characters of its node's set
abbrev pub IsByteProgram : ByteProgram → Type 0
IsByteProgram p = ReadsMembers (first_by is_in) (automata_of p) (character_program p).nodes

-- in each search the program over bytes has the walks of a program over characters
abbrev pub HasWalksOfProgram : ByteProgram → Program walks.Look (List Range) → Type 0
HasWalksOfProgram p characters = (is_word : ℕ → Bool) (s : Search)
    → HasWalksOf (machine_of is_in is_word characters s)
    (byte_machine_of is_word (character_program p) (automata_of p) s) (λ q. (q, 0))
