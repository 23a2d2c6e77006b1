-- Tables of searches with an automaton, and why such searches fail.
use Rattle.std.specs.Prelude.{◌≡◌, ℕ, ◌+◌, ◌-◌, ◌<◌, ◌≤◌, ◌⊎◌, Bool, true, false, List, length, Option, Some, slice_get}
use Rattle.rx_util.specs.declared.search.MatchError.{MatchError}
use Rattle.rx_util.specs.declared.search.MatchError.TheVariants as error
use Rattle.rx_walks.specs.Finds.{Anchoring, Search}
use Rattle.rx_walks.specs.ProgramFinds.{start_node}
use Rattle.rx_program.specs.Programs.{character_program}
use Rattle.rx_dfa.specs.declared.automaton.Automaton.{Automaton}
use Rattle.rx_dfa.specs.declared.behind.Behind.{Behind}
use Rattle.rx_dfa.specs.declared.states.AutomatonState.{AutomatonState}
use Rattle.rx_dfa.specs.declared.states.Starting.{Starting}
use Rattle.rx_dfa.specs.Behind.{behind_of, quits}
use Rattle.rx_dfa.specs.Alphabets.{ahead_in}
use Rattle.rx_dfa.specs.Automata.{directed}
use Rattle.rx_dfa.specs.Caches as caches
use Rattle.rx_dfa.specs.Caches.{CacheView, HoldsSteps, IsCacheOf}
use Rattle.rx_dfa.specs.DenseTables.{IsClosedOf, IsQuit, MayBeByte, WalksStartFrom}
use Rattle.rx_dfa.specs.Passing.{IsRefusal}

-- the states and steps are those of an automaton
abbrev pub HoldsBy : Automaton → CacheView → Type 0
HoldsBy a cache = HoldsSteps (directed a) a.alphabet.now cache

-- a cache of an automaton
abbrev pub IsCacheBy : Automaton → CacheView → Type 0
IsCacheBy a cache = IsCacheOf (directed a) a.alphabet.now cache

-- a table of an automaton with some states and steps, or with all
abbrev pub IsTable : Bool → Automaton → CacheView → Type 0
IsTable false a table = IsCacheBy a table
IsTable true a table = IsClosedOf (directed a) a.alphabet.now table

-- the result of a step in a column: a state's number, or none if the search must quit
abbrev pub HasStepped : Automaton → List AutomatonState → AutomatonState → ℕ → Option ℕ → Type 0
HasStepped a states x column next =
    caches.HasStepped (directed a) a.alphabet.now states x (ahead_in a.alphabet.now column) next

-- a search may begin like this
pub record IsBeginning (a : Automaton) (starting : Starting) (behind : Behind) : Type 0 where
  pub anchoring : Anchoring
  pub start : ℕ
  pub starts : start_node (character_program (directed a).bytes) anchoring ≡ Some start
  pub starting_is : WalksStartFrom (directed a).is_back start starting
  pub byte : Option ℕ
  pub may_be : MayBeByte byte
  pub behind_is : behind ≡ behind_of a.alphabet.now.asked (directed a).bytes.line_terminator byte

-- why a table has no step at an offset, or no start state: out of memory, or it gave up; neither if
-- all is known
abbrev pub IsLack : Bool → ℕ → MatchError → Type 0
IsLack false at e = (e ≡ error.Memory) ⊎ (e ≡ error.GaveUp at)
IsLack true at e = ⊥

-- why the bytes from an offset on couldn't all be read
abbrev pub IsRefusalAmong : Bool → Automaton → ℕ → List ℕ → MatchError → Type 0
IsRefusalAmong is_whole a at bytes error.Memory = is_whole ≡ false
IsRefusalAmong is_whole a at bytes (error.Quit b i) =
    (at ≤ i) × (slice_get bytes (i - at) ≡ Some b) × (quits a.alphabet.now.asked (Some b) ≡ true)
IsRefusalAmong is_whole a at bytes (error.GaveUp i) =
    (is_whole ≡ false) × (at ≤ i) × (i < at + length bytes)
IsRefusalAmong is_whole a at bytes (error.UnsupportedAnchored mode) = ⊥

-- why a search with a table fails
abbrev pub IsRefusalBy : Bool → Automaton → Search → MatchError → Type 0
IsRefusalBy false a s e = IsRefusal a.alphabet.now.asked s e
IsRefusalBy true a s e = IsQuit a.alphabet.now.asked s e
