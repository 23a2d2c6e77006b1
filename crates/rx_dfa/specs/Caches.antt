-- The table of an automaton, and the states of its rows.
use Rattle.std.specs.Prelude.{◌≡◌, ℕ, ◌+◌, ◌-◌, ◌*◌, ◌^◌, ◌<◌, ◌≤◌, ◌⊎◌, ◌==◌, true, false, List, All, length, min, sum_by, Option, Some, None, IsSome, slice_get}
use Rattle.std.specs.HashMap.{HashMap, get}
use Rattle.rx_util.specs.declared.search.MatchError.{MatchError}
use Rattle.rx_util.specs.declared.search.MatchError.TheVariants.{GaveUp}
use Rattle.rx_steps.specs.Nodes.{widths_of}
use Rattle.rx_steps.specs.Alike.{AreBare}
use Rattle.rx_dfa.specs.declared.cache.TheConstants.{CLEARS, ENDS, ENTRY_BYTES, NODE_BYTES, QUIT, STATE_BYTES, STOPS, UNKNOWN}
use Rattle.rx_dfa.specs.declared.states.Ahead.{Ahead}
use Rattle.rx_dfa.specs.declared.states.AutomatonState.{AutomatonState}
use Rattle.rx_dfa.specs.declared.behind.Behind.{Behind}
use Rattle.rx_dfa.specs.declared.states.Starting.{Starting}
use Rattle.rx_dfa.specs.Behind.{quits}
use Rattle.rx_dfa.specs.Directions.{Directed}
use Rattle.rx_dfa.specs.States.{IsFirstState, IsStateOf, IsStep}
use Rattle.rx_dfa.specs.Alphabets.{AlphabetView, column_count, ahead_in}
use Rattle.rx_dfa.specs.Hashes.{hash_of}

-- a cache: the number of nodes of each state of its program; the length of a row, and the rows one
-- after the other; the state of each row; the approximate number of bytes that they take; and how
-- often the last search cleared them
pub record CacheView : Type 0 where
  pub widths : List ℕ
  pub width : ℕ
  pub table : List ℕ
  pub states : List AutomatonState
  pub used : ℕ
  pub cleared : ℕ

-- a state leads to the state with this number
pub record LeadsTo (p : Directed) (alphabet : AlphabetView) (states : List AutomatonState)
    (x : AutomatonState) (ahead : Ahead) (number : ℕ) : Type 0 where
  pub next : AutomatonState
  pub stands : slice_get states number ≡ Some next
  pub step : IsStep p alphabet.asked x ahead next
  pub told : quits alphabet.asked ahead.seen ≡ false

-- what an entry says of a state and the text after an offset: nothing; that a search must quit; or
-- the offset of the next state's row, plus `ENDS` if a match ends, or plus `STOPS` if a search must
-- check that state
pub data IsEntry (p : Directed) (alphabet : AlphabetView) (width : ℕ)
    (states : List AutomatonState) (x : AutomatonState) (ahead : Ahead) (entry : ℕ) : Type 0 where
  unknown : entry ≡ UNKNOWN → IsEntry p alphabet width states x ahead entry
  quit : entry ≡ QUIT → quits alphabet.asked ahead.seen ≡ true
      → IsEntry p alphabet width states x ahead entry
  plain : {number : ℕ} (to : LeadsTo p alphabet states x ahead number) → entry ≡ number * width
      → entry < ENDS → to.next.ended ≡ None → IsEntry p alphabet width states x ahead entry
  ends : {number : ℕ} (to : LeadsTo p alphabet states x ahead number)
      → entry ≡ ENDS + number * width → entry < STOPS → IsSome to.next.ended
      → IsEntry p alphabet width states x ahead entry
  over : {number : ℕ} → LeadsTo p alphabet states x ahead number
      → entry ≡ STOPS + number * width → entry < QUIT
      → IsEntry p alphabet width states x ahead entry

-- an entry leads to this state, or says nothing
pub data IsEntryTo (width : ℕ) (y : AutomatonState) (number entry : ℕ) : Type 0 where
  unknown_to : entry ≡ UNKNOWN → IsEntryTo width y number entry
  plain_to : entry ≡ number * width → entry < ENDS → y.ended ≡ None
      → IsEntryTo width y number entry
  ends_to : entry ≡ ENDS + number * width → entry < STOPS → IsSome y.ended
      → IsEntryTo width y number entry
  over_to : entry ≡ STOPS + number * width → entry < QUIT
      → IsEntryTo width y number entry

-- the result of a step: a state's number, or none if the search must quit
abbrev pub HasStepped : Directed → AlphabetView → List AutomatonState → AutomatonState → Ahead
    → Option ℕ → Type 0
HasStepped p alphabet states x ahead None = quits alphabet.asked ahead.seen ≡ true
HasStepped p alphabet states x ahead (Some number) = LeadsTo p alphabet states x ahead number

-- each entry of each row is right
abbrev pub AreEntries : Directed → AlphabetView → ℕ → List AutomatonState → List ℕ → Type 0
AreEntries p alphabet width states table = (number column entry : ℕ) (x : AutomatonState)
    → slice_get states number ≡ Some x → column < width
    → slice_get table (number * width + column) ≡ Some entry
    → IsEntry p alphabet width states x (ahead_in alphabet column) entry

-- both states are equal
pub record IsSameState (x y : AutomatonState) : Type 0 where
  pub threads : y.threads.threads ≡ x.threads.threads
  pub starting : y.starting ≡ x.starting
  pub behind : y.behind ≡ x.behind
  pub ended : y.ended ≡ x.ended

-- no state of the list equals this one
abbrev pub IsNewState : List AutomatonState → AutomatonState → Type 0
IsNewState states x = (number : ℕ) (y : AutomatonState) → slice_get states number ≡ Some y
    → IsSameState x y → ⊥

-- no two states of the list are equal
abbrev pub StandApart : List AutomatonState → Type 0
StandApart states = (m n : ℕ) (x y : AutomatonState) → slice_get states m ≡ Some x
    → slice_get states n ≡ Some y → IsSameState x y → m ≡ n

-- a number, or the greatest number of 64 bits
abbrev pub counted : ℕ → ℕ
counted n = min n (2 ^ 64 - 1)

-- the approximate number of bytes of a state with this many nodes and entries: the nodes, the row,
-- and other data
abbrev pub size_of_parts : ℕ → ℕ → ℕ
size_of_parts nodes entries = nodes * NODE_BYTES + entries * ENTRY_BYTES + 2 * STATE_BYTES

-- that of a state whose row has this length
abbrev pub size_of : ℕ → AutomatonState → ℕ
size_of width x = size_of_parts (length x.threads.threads) width

-- that of all states
abbrev pub size_of_all : ℕ → List AutomatonState → ℕ
size_of_all width states = counted (sum_by (size_of width) states)

-- that of a cache's states and a further one
abbrev pub used_with : CacheView → AutomatonState → ℕ
used_with cache x = counted (cache.used + counted (size_of cache.width x))

-- there are at least two states, and a further one doesn't fit
pub record HasNoRoom (capacity : ℕ) (cache : CacheView) (x : AutomatonState) : Type 0 where
  pub some : 2 ≤ length cache.states
  pub full : capacity < used_with cache x

-- the states and steps are those of an automaton of a program
pub record HoldsSteps (p : Directed) (alphabet : AlphabetView) (cache : CacheView) : Type 0 where
  pub widths : cache.widths ≡ widths_of p.bytes
  pub width : cache.width ≡ column_count alphabet
  pub states : All (IsStateOf p) cache.states
  pub apart : StandApart cache.states
  pub rows : length cache.table ≡ length cache.states * cache.width
  pub entries : AreEntries p alphabet cache.width cache.states cache.table
  pub used : cache.used ≡ size_of_all cache.width cache.states

-- there are at most two states, or they take at most the capacity
abbrev pub IsWithinCapacity : ℕ → CacheView → Type 0
IsWithinCapacity capacity cache = (length cache.states ≤ 2) ⊎ (cache.used ≤ capacity)

-- a cache for searches with an automaton of a program
pub record IsCacheOf (p : Directed) (alphabet : AlphabetView) (cache : CacheView) : Type 0 where
  pub steps : HoldsSteps p alphabet cache
  pub bounded : IsWithinCapacity alphabet.capacity cache

-- a search gives up only after it has cleared the cache `CLEARS` times
abbrev pub GivesUpLate : CacheView → MatchError → Type 0
GivesUpLate cache (GaveUp at) = CLEARS ≤ cache.cleared
GivesUpLate cache _ = Unit {0}

-- there are at most this many states, which take at most this many bytes
pub record IsWithin (state_limit size_limit : ℕ) (cache : CacheView) : Type 0 where
  pub states : length cache.states ≤ state_limit
  pub size : cache.used ≤ size_limit

-- the state with this number is a start state
pub record HasFirst (states : List AutomatonState) (starting : Starting) (behind : Behind)
    (number : ℕ) : Type 0 where
  pub state : AutomatonState
  pub stands : slice_get states number ≡ Some state
  pub first : IsFirstState starting behind state

-- its threads have no slots
abbrev pub IsBare : AutomatonState → Type 0
IsBare x = AreBare x.threads.threads

-- states keep their numbers
abbrev pub KeepNumbers : List AutomatonState → List AutomatonState → Type 0
KeepNumbers before after = (number : ℕ) (x : AutomatonState) → slice_get before number ≡ Some x
    → slice_get after number ≡ Some x

-- the map has a number for each state's hash
abbrev pub AreNumbered : {S : Type 0} → List AutomatonState → HashMap ℕ ℕ S → Type 0
AreNumbered states numbers = (number : ℕ) (x : AutomatonState) → slice_get states number ≡ Some x
    → IsSome (get ◌==◌ numbers (hash_of x))
