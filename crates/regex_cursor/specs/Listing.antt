-- Lists of all matches of a regex.
use Rattle.std.specs.Prelude.{◌≡◌, ◌≤◌, List, map, Option, Some, option_map}
use Rattle.rx_util.specs.declared.search.MatchKind.TheVariants.{LeftmostFirst}
use Rattle.rx_util.specs.Search.{Found}
use Rattle.rx_util.specs.Captured.{Captured}
use Rattle.rx_util.specs.Groups.{GroupNames}
use Rattle.rx_walks.specs.Machines.{Outcome}
use Rattle.rx_walks.specs.Programs.{Notes}
use Rattle.rx_walks.specs.Finds.{Search}
use Rattle.rx_chunk.specs.Engines.{Engine, whole_span}
use Rattle.rx_chunk.specs.Iterating.{EngineMatches}
use Rattle.rx_lists.specs.Lists.{Listed}

-- the engine, for leftmost-first matches
abbrev pub leftmost_first : Engine → Engine
leftmost_first e = record e { match_kind = LeftmostFirst }

-- these are the items of all matches of an engine in a search, in order
pub record TellsAll {A : Type 0} (e : Engine) (s : Search) (item_of : Outcome Notes → A)
    (items : List A) : Type 0 where
  pub matches : List (Outcome Notes)
  pub are_all : EngineMatches e s matches
  pub items_are : items ≡ map item_of matches

-- ---- a listed match

-- the match in the two slots of its pattern's group 0
abbrev pub match_listed : Listed → Option Found
match_listed l =
    option_map (λ span. record { pattern = l.pattern; span = span }) (whole_span l.pattern l.slots)

-- both offsets exist, in order
pub record IsWhole (l : Listed) : Type 0 where
  pub match : Found
  pub is_listed : match_listed l ≡ Some match
  pub ordered : match.span.start ≤ match.span.end

-- the match in captures
abbrev pub captures_listed : GroupNames → Listed → Captured
captures_listed groups l = record { groups = groups; pattern = Some l.pattern; slots = l.slots }
