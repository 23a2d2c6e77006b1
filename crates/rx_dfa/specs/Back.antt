-- What a backward search with an automaton knows at an offset. Offsets are counted backward from
-- the span's end, also if the haystack ends before it.
use Rattle.std.specs.Prelude.{◌≡◌, ℕ, ◌+◌, ◌-◌, ◌<◌, ◌≤◌, Bool, true, false, List, [], ◌++◌, length, Option, Some, None, option_map, slice_get, IfSome, IsTrue}
use Rattle.rx_util.specs.Search.{HalfFound}
use Rattle.rx_util.specs.declared.search.Anchored.TheVariants.{No}
use Rattle.rx_util.specs.declared.search.MatchError.{MatchError}
use Rattle.rx_util.specs.declared.search.MatchError.TheVariants as error
use Rattle.rx_walks.specs.Finds.{Search, IsInside, is_anchored}
use Rattle.rx_walks.specs.ProgramFinds.{lowest}
use Rattle.rx_program.specs.Programs.{ByteProgram}
use Rattle.rx_steps.specs.declared.asked.AskedLooks.{AskedLooks}
use Rattle.rx_steps.specs.ComingBack.{HasComeBack, IsOverBack}
use Rattle.rx_steps.specs.declared.place.Place.{Place}
use Rattle.rx_steps.specs.Alike.{AreBare}
use Rattle.rx_steps.specs.ListsAll.{nodes_of}
use Rattle.rx_steps.specs.Reversed.{IsNextListBack}
use Rattle.rx_dfa.specs.declared.automaton.Automaton.{Automaton}
use Rattle.rx_dfa.specs.declared.states.AutomatonState.{AutomatonState}
use Rattle.rx_dfa.specs.declared.states.Starting.{Starting}
use Rattle.rx_dfa.specs.declared.states.Starting.TheVariants.{Never, Once, Always}
use Rattle.rx_dfa.specs.Automata.{directed}
use Rattle.rx_dfa.specs.Alphabets.{ahead_in, column_count}
use Rattle.rx_dfa.specs.Behind.{behind_of, looks_of, quits}
use Rattle.rx_dfa.specs.Directions.{turned_looks}
use Rattle.rx_dfa.specs.Passing.{IsRefusal}
use Rattle.rx_dfa.specs.Searching.{byte_after, byte_before}
use Rattle.rx_dfa.specs.States.{IsStep, start_at, started}

-- a match whose offset was counted backward from an end, with its offset in the haystack
abbrev pub placed_from : ℕ → HalfFound → HalfFound
placed_from end met = record { pattern = met.pattern; offset = end - met.offset }

abbrev pub best_from : ℕ → Option HalfFound → Option HalfFound
best_from end met = option_map (placed_from end) met

-- a walk starts at this offset only, or none does
abbrev pub StartsBack : Starting → Type 0
StartsBack Never = Unit {0}
StartsBack (Once q) = Unit {0}
StartsBack (Always q) = ⊥

-- a state's threads, and the one that starts here, if one does
abbrev pub nodes_at : AutomatonState → List (ℕ × ℕ)
nodes_at x = nodes_of (x.threads.threads ++ started (start_at x.starting true))

-- a search has reached an offset with these threads, a walk starts as the state says, and this is
-- the best match so far, its offset counted backward
pub record HasReachedBack (p : ByteProgram) (s : Search) (q i : ℕ) (x : AutomatonState)
    (met : Option HalfFound) : Type 0 where
  pub come : HasComeBack p s q i (nodes_at x) (best_from s.end met)
  pub starts : StartsBack x.starting
  pub inside : IfSome met (λ found. IsInside s (s.end - found.offset))

-- what the state says follows the offset does follow it, as far as assertions see
pub record IsBehindBack (p : ByteProgram) (asked : AskedLooks) (s : Search) (i : ℕ)
    (x : AutomatonState) : Type 0 where
  pub is : x.behind ≡ behind_of asked p.line_terminator (byte_after s i)
  pub told : quits asked (byte_after s i) ≡ false

-- a search is at an offset, in the state with this number, with this best match so far
pub record StandsBack (a : Automaton) (s : Search) (q i : ℕ) (states : List AutomatonState)
    (number : ℕ) (met : Option HalfFound) : Type 0 where
  pub state : AutomatonState
  pub stands : slice_get states number ≡ Some state
  pub reached : HasReachedBack (directed a).bytes s q i state met
  pub behind : IsBehindBack (directed a).bytes a.alphabet.now.asked s i state

-- these are the bytes of the haystack before an offset, in reverse order, none below the lowest
-- offset
pub record StandBefore (s : Search) (i : ℕ) (bytes : List ℕ) : Type 0 where
  pub are : (k b : ℕ) → slice_get bytes k ≡ Some b
      → slice_get s.content (i - 1 - k) ≡ Some b
  pub low : lowest s + length bytes ≤ i

-- the position of a state's backward step at an offset, over this byte before it, or none
abbrev pub place_back : ByteProgram → Search → ℕ → AutomatonState → Option ℕ → Place
place_back p s i x byte = record {
  at = 0;
  byte = byte;
  looks = turned_looks (looks_of p.line_terminator x.behind (byte_before s i));
}

-- a state meets the start of this match at the offset, where it reads no byte
abbrev pub MeetsStart : ByteProgram → Search → ℕ → AutomatonState → Option ℕ → Type 0
MeetsStart p s i x met = IsNextListBack p (place_back p s i x None) (nodes_at x) [] met

-- a search may step in this column, and the step gives the match that starts at the offset, where
-- no byte is read
pub record IsFirstColumn (a : Automaton) (s : Search) (i column : ℕ) : Type 0 where
  pub inside : column < column_count a.alphabet.now
  pub goes_on : quits a.alphabet.now.asked (ahead_in a.alphabet.now column).seen ≡ false
  pub tells : (x y : AutomatonState) → AreBare x.threads.threads
      → IsStep (directed a) a.alphabet.now.asked x (ahead_in a.alphabet.now column) y
      → MeetsStart (directed a).bytes s i x y.ended

-- an error whose offset was counted backward from an end, with its offset in the haystack
abbrev pub placed_error : ℕ → MatchError → MatchError
placed_error end (error.Quit b i) = error.Quit b (end - i - 1)
placed_error end (error.GaveUp i) = error.GaveUp (end - i)
placed_error end error.Memory = error.Memory
placed_error end (error.UnsupportedAnchored mode) = error.UnsupportedAnchored mode

-- a backward search is over, with this best match
pub record HasEndedBack (p : ByteProgram) (s : Search) (q : ℕ) (best : Option HalfFound) : Type 0
  where
    pub over : IsOverBack p s q best
    pub inside : IfSome best (λ found. IsInside s found.offset)

-- why a backward search stops: out of memory; a byte of the slice before which it must quit; or it
-- gave up at an offset inside. If all steps are known, only the byte is possible.
abbrev pub StopsBack : Bool → AskedLooks → Search → MatchError → Type 0
StopsBack is_whole asked s error.Memory = is_whole ≡ false
StopsBack is_whole asked s (error.Quit b i) = IsRefusal asked s (error.Quit b i)
StopsBack is_whole asked s (error.GaveUp i) = (is_whole ≡ false) × IsInside s i
StopsBack is_whole asked s (error.UnsupportedAnchored mode) = ⊥

-- why a backward search fails: it stops, or the input isn't anchored
abbrev pub IsRefusalBackBy : Bool → AskedLooks → Search → MatchError → Type 0
IsRefusalBackBy is_whole asked s (error.UnsupportedAnchored mode) =
    (mode ≡ No) × (is_anchored s.anchoring ≡ false)
IsRefusalBackBy is_whole asked s error =
    IsTrue (is_anchored s.anchoring) × StopsBack is_whole asked s error

-- this for a search whose states are computed as it reaches them
abbrev pub IsLazyRefusalBack : AskedLooks → Search → MatchError → Type 0
IsLazyRefusalBack asked s error = IsRefusalBackBy false asked s error

-- this for a search whose states are all computed before
abbrev pub IsDenseRefusalBack : AskedLooks → Search → MatchError → Type 0
IsDenseRefusalBack asked s error = IsRefusalBackBy true asked s error
