-- Closed automata: every state that a search can reach is there, with all its steps.
use Rattle.std.specs.Prelude.{◌≡◌, ℕ, ◌+◌, ◌-◌, ◌*◌, ◌<◌, ◌≤◌, Bool, false, List, length, Option, Some, None, slice_get}
use Rattle.rx_util.specs.declared.search.MatchError.{MatchError}
use Rattle.rx_util.specs.declared.search.MatchError.TheVariants as error
use Rattle.rx_walks.specs.Finds.{Anchoring, Search}
use Rattle.rx_walks.specs.ProgramFinds.{start_node}
use Rattle.rx_program.specs.Programs.{character_program}
use Rattle.rx_steps.specs.declared.asked.AskedLooks.{AskedLooks}
use Rattle.rx_dfa.specs.declared.cache.TheConstants.{ENDS, UNKNOWN}
use Rattle.rx_dfa.specs.declared.states.AutomatonState.{AutomatonState}
use Rattle.rx_dfa.specs.declared.states.Starting.{Starting}
use Rattle.rx_dfa.specs.declared.states.Starting.TheVariants.{Never, Once, Always}
use Rattle.rx_dfa.specs.declared.behind.Behind.{Behind}
use Rattle.rx_dfa.specs.Behind.{behind_of}
use Rattle.rx_dfa.specs.Directions.{Directed}
use Rattle.rx_dfa.specs.Alphabets.{AlphabetView}
use Rattle.rx_dfa.specs.Caches.{CacheView, HasFirst, HoldsSteps, KeepNumbers}
use Rattle.rx_dfa.specs.Passing.{IsRefusal}

-- the entry at this index of a table is known
pub record IsKnownAt (table : List ℕ) (place : ℕ) : Type 0 where
  pub entry : ℕ
  pub stands : slice_get table place ≡ Some entry
  pub known : entry ≡ UNKNOWN → ⊥

-- each entry of the first `count` states is known: for each class, and for the end
abbrev pub AreKnown : CacheView → ℕ → Type 0
AreKnown cache count = (number column : ℕ) → number < count → column < cache.width
    → IsKnownAt cache.table (number * cache.width + column)

-- states keep their numbers, and known entries stay known
pub record Grows (before after : CacheView) : Type 0 where
  pub numbers : KeepNumbers before.states after.states
  pub entries : (place : ℕ) → IsKnownAt before.table place → IsKnownAt after.table place

-- there are no more states than before, or an entry can hold the offset of the last one's row
pub data HaveRows (before after : CacheView) : Type 0 where
  no_more : length after.states ≤ length before.states → HaveRows before after
  in_reach : (length after.states - 1) * after.width < ENDS → HaveRows before after

-- a start state is there, for how threads start and what precedes
abbrev pub HasOneFirst : List AutomatonState → Starting → Behind → Type 0
HasOneFirst states starting behind = (number : ℕ) × HasFirst states starting behind number

-- how walks of a search may start in this state of the program; in a backward search they start
-- once
abbrev pub WalksStartFrom : Bool → ℕ → Starting → Type 0
WalksStartFrom is_back q Never = is_back ≡ false
WalksStartFrom is_back q (Once r) = r ≡ q
WalksStartFrom is_back q (Always r) = (is_back ≡ false) × (r ≡ q)

-- the start states are there, for each way to start
abbrev pub HasStarts : Bool → List AutomatonState → ℕ → Behind → Type 0
HasStarts is_back states q behind = (starting : Starting) → WalksStartFrom is_back q starting
    → HasOneFirst states starting behind

-- this is a byte, or none
abbrev pub MayBeByte : Option ℕ → Type 0
MayBeByte None = Unit {0}
MayBeByte (Some b) = b < 256

-- they are there for everything that may precede
abbrev pub HasStartsFrom : Directed → AlphabetView → List AutomatonState → ℕ → Type 0
HasStartsFrom p alphabet states q = (byte : Option ℕ) → MayBeByte byte
    → HasStarts p.is_back states q (behind_of alphabet.asked p.bytes.line_terminator byte)

-- they are there for each state in which walks of a search start
abbrev pub HasAllStarts : Directed → AlphabetView → List AutomatonState → Type 0
HasAllStarts p alphabet states = (anchoring : Anchoring) (q : ℕ)
    → start_node (character_program p.bytes) anchoring ≡ Some q → HasStartsFrom p alphabet states q

-- all start states are there, and each entry of each state is known
pub record IsClosedOf (p : Directed) (alphabet : AlphabetView) (cache : CacheView) : Type 0 where
  pub made : HoldsSteps p alphabet cache
  pub starts : HasAllStarts p alphabet cache.states
  pub known : AreKnown cache (length cache.states)

-- why a search with one fails: a byte of the slice before which it must quit
abbrev pub IsQuit : AskedLooks → Search → MatchError → Type 0
IsQuit asked s (error.Quit b i) = IsRefusal asked s (error.Quit b i)
IsQuit asked s _ = ⊥
