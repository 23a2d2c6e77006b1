-- The result of a search with an engine, and the state that it leaves.
use Rattle.std.specs.Prelude.{◌≡◌, ℕ, ◌+◌, ◌*◌, ◌≤◌, List, length, Option}
use Rattle.std.specs.Option.{ForSome}
use Rattle.rx_util.specs.Search.{Found}
use Rattle.rx_util.specs.Captured.{Captured, group_span, match_found}
use Rattle.rx_input.specs.Cursors.{IsSameContent}
use Rattle.rx_input.specs.Inputs.{InputState}
use Rattle.rx_input.specs.Searchers.{EndsInside}
use Rattle.rx_walks.specs.Finds.{Search}
use Rattle.rx_steps.specs.Nodes.{node_count}
use Rattle.rx_steps.specs.Searching.{search_of}
use Rattle.rx_steps.specs.Caches.{CacheView, IsCacheOf, place_count}
use Rattle.rx_chunk.specs.Engines as engines
use Rattle.rx_chunk.specs.Engines.{Engine, EngineFinds, IsAnswerAt, StopsAs}

-- the search that an input requests of an engine
abbrev pub search_by : Engine → InputState → Search
search_by e i = search_of e.utf8_empty i

-- ---- its result

-- whether there is a match; and which one, unless any may be reported
abbrev pub TellsMatch : Engine → InputState → Option Found → Type 0
TellsMatch e i found =
    engines.TellsMatch i.asked.earliest (EngineFinds e) (search_by e i) found

-- the same for the pattern and the offsets in slots
abbrev pub TellsSlots : Engine → InputState → Option ℕ → List (Option ℕ) → Type 0
TellsSlots e i pattern slots =
    engines.TellsSlots i.asked.earliest (EngineFinds e) (search_by e i) pattern slots

-- the same for a search that stops at an offset: if any match may be reported, it is what is found
-- up to this offset
abbrev pub TellsSlotsAt : Engine → InputState → ℕ → Option ℕ → List (Option ℕ) → Type 0
TellsSlotsAt e i at pattern slots =
    IsAnswerAt i.asked.earliest e (search_by e i) at pattern slots

-- captures of the engine's groups with slots for the whole match of each pattern
abbrev pub HoldsMatches : Engine → Captured → Type 0
HoldsMatches e caps = (caps.groups ≡ e.groups) × (2 * length e.groups ≤ length caps.slots)

-- such captures have the whole match, which doesn't end before it starts, and ends in the span
pub record TellsWhole (e : Engine) (i : InputState) (caps : Captured) : Type 0 where
  pub match : TellsMatch e i (match_found caps)
  pub ordered : ForSome (group_span caps 0) (λ span. span.start ≤ span.end)
  pub inside : ForSome (match_found caps) (λ found. EndsInside i found.span.end)

-- ---- the state that it leaves

-- if it finds a match, it stops at the first end of one if any may be reported; else, unless all
-- matches are searched for, at an offset reached by a walk that started at that end or before it
abbrev pub StopsInTime : Engine → InputState → ℕ → Type 0
StopsInTime e i at = StopsAs e.match_kind i.asked.earliest e.program (search_by e i) at

-- an input over the same haystack with the same settings; the current chunk and the position may
-- differ
pub record AsksTheSame (old new : InputState) : Type 0 where
  pub asked : new.asked ≡ old.asked
  pub same : IsSameContent old.cursor new.cursor

-- a cache for the same engine, after a search that followed each node of the program at most once
-- at each offset
pub record ServesOn (e : Engine) (i : InputState) (old new : CacheView) : Type 0 where
  pub made : IsCacheOf e.program new
  pub work : new.followed ≤ old.followed + node_count e.program * place_count (search_by e i)
