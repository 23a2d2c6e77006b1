-- A regex: what it was built from, and the results of its searches.
use Rattle.std.specs.Prelude.{◌≡◌, ℕ, ◌≤◌, Bool, List, [], ◌∷◌, length, None, Option, option_map}
use Rattle.std.specs.Str.{chars}
use Rattle.rx_util.specs.Captured.{Captured}
use Rattle.rx_util.specs.Groups.{slot_len}
use Rattle.rx_util.specs.Search.{Found, HalfFound}
use Rattle.rx_input.specs.Inputs.{InputState, between}
use Rattle.rx_grammar.specs.Grammar.{Spells}
use Rattle.rx_grammar.specs.Trees.{Tree}
use Rattle.rx_walks.specs.Finds.{Search}
use Rattle.rx_walks.specs.Machines.{Outcome}
use Rattle.rx_walks.specs.Programs.{Notes}
use Rattle.rx_program.specs.Programs.{ByteProgram}
use Rattle.rx_program.specs.declared.error.BuildError.{BuildError}
-- the results of its searches are those of its engine
pub use Rattle.rx_engine.specs.Engines.{Engine}
pub use Rattle.rx_chunk.specs.Engines.{EngineFinds, IsFound, TellsWhether}
use Rattle.rx_chunk.specs.Engines.{Finds}
use Rattle.rx_chunk.specs.Iterating.{EngineMatches}
pub use Rattle.rx_chunk.specs.Searches.{HoldsMatches, TellsMatch, TellsSlots, TellsWhole, search_by}
use Rattle.rx_engine.specs.Engines.{AreRefused, IsBuiltOfTrees, IsEngine, IsRefused, IsRefusedOfAll, Spell}
use Rattle.regex_cursor.specs.Patterns.{search_part}
use Rattle.regex_cursor.specs.Configs.{RegexSettings, RegexWanted, capacity_of, default_regex, engine_settings, engine_wanted}

-- the view of a regex: the engine for any search, and the settings that it was built with
pub record RegexView : Type 0 where
  pub engine : Engine
  pub settings : RegexSettings

-- its program and its groups are those of trees
abbrev pub IsRegex : RegexView → Type 0
IsRegex re = IsEngine re.engine

-- ---- what it was built from

-- it was built from these trees with these settings
pub record IsRegexOfTrees (trees : List Tree) (settings : RegexSettings) (re : RegexView)
    : Type 0 where
  pub engine : IsBuiltOfTrees trees (engine_settings settings) re.engine
  pub settings_are : re.settings ≡ settings

-- it was built from a pattern, given as its bytes: from the tree that the pattern spells
pub record IsRegexUnder (text : List ℕ) (wanted : RegexWanted) (re : RegexView) : Type 0 where
  pub tree : Tree
  pub spells : Spells (chars text) wanted.syntax tree
  pub built : IsRegexOfTrees (tree ∷ []) wanted.settings re

-- it was built from patterns: from the trees that they spell
pub record IsRegexOfAllUnder (texts : List (List ℕ)) (wanted : RegexWanted) (re : RegexView)
    : Type 0 where
  pub trees : List Tree
  pub spell : Spell texts wanted.syntax trees
  pub built : IsRegexOfTrees trees wanted.settings re

-- why trees have no regex
abbrev pub TreesAreRefused : List Tree → RegexSettings → BuildError → Type 0
TreesAreRefused trees settings error = AreRefused trees (engine_settings settings) error

-- why a pattern has none, and why patterns have none
abbrev pub IsRefusedUnder : List ℕ → RegexWanted → BuildError → Type 0
IsRefusedUnder text wanted error = IsRefused text (engine_wanted wanted) error

abbrev pub AreRefusedUnder : List (List ℕ) → RegexWanted → BuildError → Type 0
AreRefusedUnder texts wanted error = IsRefusedOfAll texts (engine_wanted wanted) error

-- the same with nothing set: 40 times the weight of the patterns is at most 10,485,760
abbrev pub IsRegexOf : List ℕ → RegexView → Type 0
IsRegexOf text re = IsRegexUnder text default_regex re

abbrev pub IsRegexOfAll : List (List ℕ) → RegexView → Type 0
IsRegexOfAll texts re = IsRegexOfAllUnder texts default_regex re

abbrev pub IsRefusedAsRegex : List ℕ → BuildError → Type 0
IsRefusedAsRegex text error = IsRefusedUnder text default_regex error

abbrev pub AreRefusedAsRegex : List (List ℕ) → BuildError → Type 0
AreRefusedAsRegex texts error = AreRefusedUnder texts default_regex error

-- ---- caches, and the results of searches

-- the view of a cache: the program that it is for, whether empty matches inside a character are
-- skipped, and the maximum number of bytes of the states that it keeps
pub record CacheView : Type 0 where
  pub program : ByteProgram
  pub utf8_empty : Bool
  pub capacity : ℕ

-- it can be used with each regex that searches like this, whatever the names of groups and other
-- settings
pub record IsCacheOf (re : RegexView) (c : CacheView) : Type 0 where
  pub program : c.program ≡ re.engine.program
  pub utf8_empty : c.utf8_empty ≡ re.engine.utf8_empty
  pub capacity : c.capacity ≡ capacity_of re.settings

-- the pattern and the end of a match
abbrev pub half_of : Found → HalfFound
half_of found = record { pattern = found.pattern; offset = found.span.end }

-- the pattern and the end of the match found, or none
pub record TellsHalf (e : Engine) (i : InputState) (half : Option HalfFound) : Type 0 where
  pub found : Option Found
  pub tells : TellsMatch e i found
  pub half_is : half ≡ option_map half_of found

-- all matches that it has in a search, in order
abbrev pub RegexMatches : RegexView → Search → List (Outcome Notes) → Type 0
RegexMatches re s ms = EngineMatches re.engine s ms

-- captures of the regex's groups with slots for all of them
abbrev pub HasRoom : RegexView → Captured → Type 0
HasRoom re caps =
    HoldsMatches re.engine caps × (length caps.slots ≡ slot_len re.engine.groups)

-- no part of a haystack between two offsets has a match of the engine's program, searched
-- separately
abbrev pub HasNoFindBetween : Engine → List ℕ → ℕ → ℕ → Type 0
HasNoFindBetween e content from to = (start end : ℕ) → from ≤ start → end ≤ to
    → Finds e.program (search_part e.utf8_empty (between start end content)) None
