-- Backward searches with a reverse program, whose walks go from the ends of matches to their
-- starts.
use Rattle.std.specs.Prelude.{◌≡◌, ℕ, false, IsTrue, List, map, Option, option_map}
use Rattle.unicode.specs.Perl.{is_word_char}
use Rattle.rx_util.specs.Search.{HalfFound}
use Rattle.rx_util.specs.declared.search.Anchored.TheVariants.{No}
use Rattle.rx_util.specs.declared.search.MatchError.{MatchError}
use Rattle.rx_util.specs.declared.search.MatchError.TheVariants as error
use Rattle.rx_utf8.specs.Automata.{is_in}
use Rattle.rx_walks.specs.Backward.{ProgramFindsBack}
use Rattle.rx_walks.specs.Finds.{Search, PatternMatch, is_anchored}
use Rattle.rx_walks.specs.Machines.{Machine}
use Rattle.rx_walks.specs.Owners.{KeepsPatterns}
use Rattle.rx_walks.specs.Programs.{Notes, IsAbovePatterns}
use Rattle.rx_walks.specs.Reversed.{back_program}
use Rattle.rx_program.specs.declared.reverse_states.ReverseState.{ReverseState}
use Rattle.rx_program.specs.declared.reverse_states.ReverseState.TheVariants as back
use Rattle.rx_program.specs.declared.states.State.{State}
use Rattle.rx_program.specs.declared.states.State.TheVariants as state
use Rattle.rx_program.specs.Programs.{ByteProgram, character_program}
use Rattle.rx_program.specs.Reversed.{ReverseByteProgram, back_characters_of}
use Rattle.rx_steps.specs.declared.place.Place.{Place}
use Rattle.rx_steps.specs.ListsAll.{IsStepAll, MovesSo, end_met_by, started_at}

-- ---- what is found

-- the result of a search backward from the end of the span, or of the haystack if that is less: of
-- the matches that end there the least start, with the least pattern for it
pub record IsHalfAnswerBack (p : ByteProgram) (s : Search) (met : Option HalfFound) : Type 0 where
  pub found : Option PatternMatch
  pub finds : ProgramFindsBack is_in is_word_char (character_program p) s found
  pub met_is : met ≡ option_map (λ a. record { pattern = a.pattern; offset = a.start }) found

-- why it fails: it is anchored and out of memory, or it isn't anchored
abbrev pub IsRefusalBack : Search → MatchError → Type 0
IsRefusalBack s error.Memory = IsTrue (is_anchored s.anchoring)
IsRefusalBack s (error.UnsupportedAnchored mode) =
    (mode ≡ No) × (is_anchored s.anchoring ≡ false)
IsRefusalBack s _ = ⊥

-- this is the reverse of a program, whose walks stay in their pattern
pub record IsReverseOf (p : ByteProgram) (turned : ReverseByteProgram) : Type 0 where
  pub characters : back_characters_of turned ≡ back_program (character_program p)
  pub above : IsAbovePatterns (character_program p)
  pub keeps : (s : Search) → KeepsPatterns is_in is_word_char (character_program p) s

-- ---- its steps

-- a state of a reverse program as one of a program: it does the same, with bytes given from the
-- last to the first
abbrev pub state_of : ReverseState → State
state_of (back.Ranges automaton next) = state.Ranges automaton next
state_of (back.Look asked next) = state.Look asked next
state_of (back.Empty next) = state.Empty next
state_of (back.BinaryUnion first second) = state.BinaryUnion first second
state_of (back.Union alternates) = state.Union alternates
state_of (back.Match pattern) = state.Match pattern

-- the whole program in that form
abbrev pub byte_program_of : ReverseByteProgram → ByteProgram
byte_program_of turned = record {
  states = map state_of turned.states;
  start = turned.start;
  patterns = turned.patterns;
  line_terminator = turned.line_terminator;
}

-- a step takes threads that started at one offset from these nodes to others, in any haystack in
-- which the program makes these moves; and of the match ends that it meets this is the least
-- pattern
abbrev pub IsNextListBack : ByteProgram → Place → List (ℕ × ℕ) → List (ℕ × ℕ) → Option ℕ → Type 0
IsNextListBack p place nodes next met =
    (m : Machine (ℕ × ℕ) Notes) (i start : ℕ) → MovesSo m i p.states place
    → IsStepAll m i (started_at start nodes) (started_at start next) (end_met_by start met)
