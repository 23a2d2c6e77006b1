-- What searches with an automaton reach, byte by byte.
use Rattle.std.specs.Prelude.{◌≡◌, ℕ, ◌+◌, ◌*◌, ◌<◌, ◌≤◌, true, false, List, [], ◌∷◌, length, min, Option, Some, None, slice_get}
use Rattle.rx_util.specs.Search.{HalfFound}
use Rattle.rx_util.specs.declared.search.MatchError.{MatchError}
use Rattle.rx_util.specs.declared.search.MatchError.TheVariants as error
use Rattle.rx_walks.specs.Finds.{Search, IsInside}
use Rattle.rx_walks.specs.ProgramFinds.{lowest}
use Rattle.rx_input.specs.Inputs.{InputState}
use Rattle.rx_program.specs.Programs.{ByteProgram}
use Rattle.rx_steps.specs.declared.asked.AskedLooks.{AskedLooks}
use Rattle.rx_steps.specs.Alike.{AreBare}
use Rattle.rx_steps.specs.Searching.{search_of}
use Rattle.rx_dfa.specs.declared.automaton.Automaton.{Automaton}
use Rattle.rx_dfa.specs.declared.scan.PassedEnd.{PassedEnd}
use Rattle.rx_dfa.specs.declared.states.AutomatonState.{AutomatonState}
use Rattle.rx_dfa.specs.declared.states.Starting.TheVariants.{Never}
use Rattle.rx_dfa.specs.Behind.{quits}
use Rattle.rx_dfa.specs.Directions.{forward}
use Rattle.rx_dfa.specs.Automata.{directed}
use Rattle.rx_dfa.specs.declared.states.Ahead.{Ahead}
use Rattle.rx_dfa.specs.States.{ahead_of, EndsSo, IsStep}
use Rattle.rx_dfa.specs.Alphabets.{ahead_in, column_count}
use Rattle.rx_dfa.specs.Caches.{CacheView}
use Rattle.rx_dfa.specs.Searching.{met_after, HasReached, IsAhead, IsBehind}

-- the search with an automaton that an input requests
abbrev pub search_by : Automaton → InputState → Search
search_by a input = search_of a.alphabet.now.utf8_empty input

-- from an offset on these bytes lead from a state and a last match end to a state and a last match
-- end
pub data Passes (a : Automaton) : List ℕ → ℕ → AutomatonState → Option HalfFound → AutomatonState
    → Option HalfFound → Type 0 where
  none : {i : ℕ} {x : AutomatonState} {met : Option HalfFound} → Passes a [] i x met x met
  more : {b i : ℕ} {bytes : List ℕ} {x y z : AutomatonState} {met met' : Option HalfFound}
      → AreBare x.threads.threads
      → IsStep (directed a) a.alphabet.now.asked x (ahead_of a.alphabet.now.utf8_empty b) y
      → quits a.alphabet.now.asked (Some b) ≡ false
      → Passes a bytes (i + 1) y (met_after i y.ended met) z met'
      → Passes a (b ∷ bytes) i x met z met'

-- the last match end after an offset, whatever it was before, if one was met before the state of
-- this row
pub record IsMetAt (width : ℕ) (states : List AutomatonState) (row place : ℕ)
    (last : Option HalfFound) : Type 0 where
  pub number : ℕ
  pub state : AutomatonState
  pub row_is : row ≡ number * width
  pub stands : slice_get states number ≡ Some state
  pub last_is : (met : Option HalfFound) → last ≡ met_after place state.ended met

-- the last match end: the one noted, or else the earlier one
abbrev pub IsNoted : ℕ → List AutomatonState → Option HalfFound → Option PassedEnd
    → Option HalfFound → Type 0
IsNoted width states met None last = last ≡ met
IsNoted width states met (Some end) last = IsMetAt width states end.row end.at last

-- a run through a table: from this state, offset and last match end it followed these bytes, to the
-- state of this row, and noted this match end
pub record TableRun : Type 0 where
  pub first : AutomatonState
  pub at : ℕ
  pub met : Option HalfFound
  pub bytes : List ℕ
  pub row : ℕ
  pub end : Option PassedEnd

-- the bytes lead to the row, and the noted match end is the last one
pub record IsRunning (a : Automaton) (table : CacheView) (run : TableRun) : Type 0 where
  pub number : ℕ
  pub next : AutomatonState
  pub last : Option HalfFound
  pub row_is : run.row ≡ number * table.width
  pub stands : slice_get table.states number ≡ Some next
  pub noted : IsNoted table.width table.states run.met run.end last
  pub passes : Passes a run.bytes run.at run.first run.met next last

-- these bytes lead from a state to the one with this number
pub record HasPassed (a : Automaton) (states : List AutomatonState) (x : AutomatonState)
    (bytes : List ℕ) (i : ℕ) (met : Option HalfFound) (number : ℕ) (met' : Option HalfFound)
    : Type 0 where
  pub next : AutomatonState
  pub stands : slice_get states number ≡ Some next
  pub passes : Passes a bytes i x met next met'

-- a dead state: it has no thread, and none will start
pub record IsDeadState (states : List AutomatonState) (number : ℕ) : Type 0 where
  pub last : AutomatonState
  pub stands : slice_get states number ≡ Some last
  pub threads : last.threads.threads ≡ []
  pub starting : last.starting ≡ Never

-- a search is at an offset, in the state with this number, with this last match end
pub record SearchStandsAt (a : Automaton) (s : Search) (q i : ℕ) (states : List AutomatonState)
    (number : ℕ) (met : Option HalfFound) : Type 0 where
  pub state : AutomatonState
  pub stands : slice_get states number ≡ Some state
  pub reached : HasReached (directed a).bytes s q i state met
  pub behind : IsBehind (directed a).bytes a.alphabet.now.asked s i state

-- these are bytes of the haystack from an offset on, none past the highest offset
pub record StandThere (s : Search) (i : ℕ) (bytes : List ℕ) : Type 0 where
  pub are : (k b : ℕ) → slice_get bytes k ≡ Some b → slice_get s.content (i + k) ≡ Some b
  pub end : i + length bytes ≤ min s.slice_end s.end
  pub low : lowest s ≤ i

-- a state meets this match end at the offset, where it reads no byte
pub record MeetsEnd (p : ByteProgram) (asked : AskedLooks) (s : Search) (i : ℕ) (x : AutomatonState)
    (ended : Option ℕ) : Type 0 where
  pub ahead : Ahead
  pub read : ahead.read ≡ None
  pub here : IsAhead p asked s i ahead
  pub ends : EndsSo (forward p) asked x ahead ended

-- a search may step in this column, and the step gives the match end at the offset, where no byte
-- is read
pub record IsLastColumn (a : Automaton) (s : Search) (i column : ℕ) : Type 0 where
  pub inside : column < column_count a.alphabet.now
  pub goes_on : quits a.alphabet.now.asked (ahead_in a.alphabet.now column).seen ≡ false
  pub tells : (x y : AutomatonState) → AreBare x.threads.threads
      → IsStep (directed a) a.alphabet.now.asked x (ahead_in a.alphabet.now column) y
      → MeetsEnd (directed a).bytes a.alphabet.now.asked s i x y.ended

-- why a search fails: out of memory; a byte of the slice before which it must quit; or it gave up
-- at an offset inside
abbrev pub IsRefusal : AskedLooks → Search → MatchError → Type 0
IsRefusal asked s error.Memory = Unit {0}
IsRefusal asked s (error.Quit b i) = (slice_get s.content i ≡ Some b) × (s.slice_start ≤ i)
    × (i < s.slice_end) × (quits asked (Some b) ≡ true)
IsRefusal asked s (error.GaveUp i) = IsInside s i
IsRefusal asked s (error.UnsupportedAnchored mode) = ⊥
