-- A reverse program in contracts.
use Rattle.std.specs.Prelude.{ℕ, ◌≤◌, List, [], ◌∷◌, length, map, Option, Some, slice_get}
use Rattle.rx_program.specs.declared.reverse_states.ReverseState.{ReverseState}
use Rattle.rx_program.specs.declared.reverse_states.ReverseState.TheVariants as state
use Rattle.rx_sets.specs.Sets.{Range}
use Rattle.rx_utf8.specs.Automata.{step_of, is_in, IsReverseReader}
use Rattle.rx_walks.specs.Looks as walks
use Rattle.rx_walks.specs.Paths.{Path}
use Rattle.rx_walks.specs.Programs.{Node, match, pass, look, set, Program, Haystack, put_note}
use Rattle.rx_walks.specs.Bytes.{Automaton, over_bytes}
use Rattle.rx_walks.specs.Laws.{ReadsMembers}
use Rattle.rx_walks.specs.Transposed.{NeverReturns}
use Rattle.rx_walks.specs.Reversed.{mirrored, last_by}
use Rattle.rx_walks.specs.BackLaws.{PathsTurn}
use Rattle.rx_program.specs.Code.{place_of}
use Rattle.rx_program.specs.Programs.{no_step}

-- the node of a state
abbrev pub back_node_of : ReverseState → Node walks.Look (List Range)
back_node_of (state.Ranges automaton next) = set automaton.value.ranges next
back_node_of (state.Look asked next) = look (place_of asked) next
back_node_of (state.Empty next) = pass (next ∷ [])
back_node_of (state.BinaryUnion first second) = pass (first ∷ second ∷ [])
back_node_of (state.Union alternates) = pass alternates.items
back_node_of (state.Match pattern) = match pattern

-- the automaton of a state that reads a character from its last byte to its first
abbrev pub back_automaton_of : Option ReverseState → Automaton
back_automaton_of (Some (state.Ranges automaton next)) = step_of automaton.value
back_automaton_of _ = no_step

-- it reads those of its set
abbrev pub ReadsItsSetBack : ReverseState → Type 0
ReadsItsSetBack (state.Ranges automaton next) = IsReverseReader automaton.value
ReadsItsSetBack _ = Unit {0}

-- a program over bytes that are read backward: its states, the start state at the ends of all
-- matches, that at the ends of each pattern's, and the line terminator
pub record ReverseByteProgram : Type 0 where
  pub states : List ReverseState
  pub start : ℕ
  pub patterns : List ℕ
  pub line_terminator : ℕ

-- the corresponding program over characters
abbrev pub back_characters_of : ReverseByteProgram → Program walks.Look (List Range)
back_characters_of p = record {
  nodes = map back_node_of p.states;
  start = p.start;
  patterns = p.patterns;
  line_terminator = p.line_terminator;
}

-- the automaton of each node with a set
abbrev pub back_automata_of : ReverseByteProgram → ℕ → Automaton
back_automata_of p q = back_automaton_of (slice_get p.states q)

-- each automaton reads the characters of its node's set, of bytes in reverse order, and never
-- returns to its first state
pub record IsReverseByteProgram (p : ReverseByteProgram) : Type 0 where
  pub reads : ReadsMembers (last_by is_in) (back_automata_of p) (back_characters_of p).nodes
  pub never_return : (q : ℕ) → NeverReturns (back_automata_of p q)

-- in each haystack, whatever assertions hold in it, its walks over bytes, from the haystack's end,
-- are those of a program over characters from their ends to their starts
abbrev pub ReadsBackwards : ReverseByteProgram → Program walks.Look (List Range) → Type 0
ReadsBackwards p characters = (h : Haystack walks.Look) → h.low ≤ length h.content
    → h.high ≤ length h.content
    → PathsTurn put_note is_in characters h (back_characters_of p)
    (λ r i k e.
    Path (over_bytes put_note (back_automata_of p) (back_characters_of p).nodes (mirrored h)) (r, 0)
    i k e)
