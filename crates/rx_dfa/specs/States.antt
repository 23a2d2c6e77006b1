-- The states of an automaton, and the steps between them.
use Rattle.std.specs.Prelude.{◌≡◌, ℕ, Bool, true, false, not, ◌||◌, List, [], ◌∷◌, ◌++◌, All, Option, Some, None}
use Rattle.rx_walks.specs.Steps.{Thins}
use Rattle.rx_steps.specs.declared.asked.AskedLooks.{AskedLooks}
use Rattle.rx_steps.specs.declared.place.Place.{Place}
use Rattle.rx_steps.specs.Threads.{Slots, Thread, IsThreadOf, first_node}
use Rattle.rx_steps.specs.Alike.{AreBare}
use Rattle.rx_dfa.specs.declared.states.Starting.{Starting}
use Rattle.rx_dfa.specs.declared.states.Starting.TheVariants.{Never, Once, Always}
use Rattle.rx_dfa.specs.declared.states.Ahead.{Ahead}
use Rattle.rx_dfa.specs.declared.states.AutomatonState.{AutomatonState}
use Rattle.rx_dfa.specs.declared.behind.Behind.{Behind}
use Rattle.rx_dfa.specs.Classes.{continues}
use Rattle.rx_dfa.specs.Behind.{behind_of, looks_of}
use Rattle.rx_dfa.specs.Directions.{Directed, IsList, looks_by}

-- the state of the program in which a walk starts at an offset, by whether a match may begin there
abbrev pub start_at : Starting → Bool → Option ℕ
start_at Never may_begin = None
start_at (Once q) true = Some q
start_at (Once q) false = None
start_at (Always q) true = Some q
start_at (Always q) false = None

-- how walks start after an offset, by the pattern whose match ended there
abbrev pub starting_after : Starting → Option ℕ → Starting
starting_after (Always q) None = Always q
starting_after _ _ = Never

-- a thread without slots that starts there, if one does
abbrev pub started : Option ℕ → List Thread
started None = []
started (Some q) = ([], first_node q) ∷ []

-- what follows an offset: a byte that is read
abbrev pub ahead_of : Bool → ℕ → Ahead
ahead_of utf8_empty b =
    record { read = Some b; seen = Some b; may_begin = not utf8_empty || not (continues b) }

-- what follows an offset: the slice's end, by whether a match may begin there
abbrev pub ahead_of_end : Bool → Ahead
ahead_of_end may_begin = record { read = None; seen = None; may_begin = may_begin }

-- the position of a step of a state's threads
abbrev pub place_of_step : Directed → AutomatonState → Ahead → Place
place_of_step p x ahead = record {
  at = 0;
  byte = ahead.read;
  looks = looks_by p.is_back (looks_of p.bytes.line_terminator x.behind ahead.seen);
}

-- a state of an automaton of a program: its threads have no slots
pub record IsStateOf (p : Directed) (x : AutomatonState) : Type 0 where
  pub bare : AreBare x.threads.threads
  pub threads : All (IsThreadOf p.bytes.states) x.threads.threads

-- the start state for how walks start and what precedes
pub record IsFirstState (starting : Starting) (behind : Behind) (x : AutomatonState) : Type 0 where
  pub threads : x.threads.threads ≡ []
  pub starting_is : x.starting ≡ starting
  pub behind_is : x.behind ≡ behind
  pub ended_is : x.ended ≡ None

-- A state leads to another one: the step of its threads, and of one that starts after them, gives
-- the other's threads, some perhaps left out, and its match end.
pub record IsStep (p : Directed) (asked : AskedLooks) (x : AutomatonState) (ahead : Ahead)
    (y : AutomatonState) : Type 0 where
  pub next : List Thread
  pub slots : Slots
  pub list : IsList p.is_back p.bytes (place_of_step p x ahead)
      (x.threads.threads ++ started (start_at x.starting ahead.may_begin)) next y.ended slots
  pub thins : Thins [] next y.threads.threads
  pub starting : y.starting ≡ starting_after x.starting y.ended
  pub behind : y.behind ≡ behind_of asked p.bytes.line_terminator ahead.read

-- a match of this pattern ends before what follows, or none does
pub record EndsSo (p : Directed) (asked : AskedLooks) (x : AutomatonState) (ahead : Ahead)
    (ended : Option ℕ) : Type 0 where
  pub next : AutomatonState
  pub step : IsStep p asked x ahead next
  pub ended_is : ended ≡ next.ended
