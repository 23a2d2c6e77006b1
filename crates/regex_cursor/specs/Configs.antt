-- The settings of a regex, and those of its engines.
use Rattle.std.specs.Prelude.{◌≡◌, ℕ, ◌-◌, ◌^◌, Bool, true, false, List, Option, Some, None, unwrap_or}
use Rattle.std.specs.Option.{option_or}
use Rattle.rx_util.specs.declared.search.MatchKind.{MatchKind}
use Rattle.rx_util.specs.declared.search.MatchKind.TheVariants.{LeftmostFirst}
use Rattle.rx_util.specs.declared.captures.WhichCaptures.{WhichCaptures}
use Rattle.rx_util.specs.declared.captures.WhichCaptures.TheVariants as which
use Rattle.rx_grammar.specs.Settings.{Settings, default_settings}
use Rattle.rx_engine.specs.Engines.{EngineSettings, Wanted}

-- settings that were set; the others are the defaults
pub record RegexSettings : Type 0 where
  pub match_kind : Option MatchKind
  pub utf8_empty : Option Bool
  pub auto_prefilter : Option Bool
  -- the literals, or none
  pub prefilter : Option (Option (List (List ℕ)))
  pub which_captures : Option WhichCaptures
  pub nfa_size_limit : Option (Option ℕ)
  pub onepass_size_limit : Option (Option ℕ)
  pub hybrid_cache_capacity : Option ℕ
  pub hybrid : Option Bool
  pub dfa : Option Bool
  pub dfa_size_limit : Option (Option ℕ)
  pub dfa_state_limit : Option (Option ℕ)
  pub backtrack : Option Bool
  pub byte_classes : Option Bool
  pub line_terminator : Option ℕ

abbrev pub none_set : RegexSettings
none_set = record {
  match_kind = None;
  utf8_empty = None;
  auto_prefilter = None;
  prefilter = None;
  which_captures = None;
  nfa_size_limit = None;
  onepass_size_limit = None;
  hybrid_cache_capacity = None;
  hybrid = None;
  dfa = None;
  dfa_size_limit = None;
  dfa_state_limit = None;
  backtrack = None;
  byte_classes = None;
  line_terminator = None;
}

-- settings that are set in the first, otherwise those of the second
abbrev pub regex_settings_over : RegexSettings → RegexSettings → RegexSettings
regex_settings_over new old = record {
  match_kind = option_or new.match_kind old.match_kind;
  utf8_empty = option_or new.utf8_empty old.utf8_empty;
  auto_prefilter = option_or new.auto_prefilter old.auto_prefilter;
  prefilter = option_or new.prefilter old.prefilter;
  which_captures = option_or new.which_captures old.which_captures;
  nfa_size_limit = option_or new.nfa_size_limit old.nfa_size_limit;
  onepass_size_limit = option_or new.onepass_size_limit old.onepass_size_limit;
  hybrid_cache_capacity = option_or new.hybrid_cache_capacity old.hybrid_cache_capacity;
  hybrid = option_or new.hybrid old.hybrid;
  dfa = option_or new.dfa old.dfa;
  dfa_size_limit = option_or new.dfa_size_limit old.dfa_size_limit;
  dfa_state_limit = option_or new.dfa_state_limit old.dfa_state_limit;
  backtrack = option_or new.backtrack old.backtrack;
  byte_classes = option_or new.byte_classes old.byte_classes;
  line_terminator = option_or new.line_terminator old.line_terminator;
}

-- ---- settings with their defaults

-- which of all matches is found
abbrev pub match_kind_of : RegexSettings → MatchKind
match_kind_of settings = unwrap_or settings.match_kind LeftmostFirst

-- whether empty matches inside a character are skipped
abbrev pub utf8_empty_of : RegexSettings → Bool
utf8_empty_of settings = unwrap_or settings.utf8_empty true

-- whether literals that matches begin with are extracted from the patterns, for scans
abbrev pub auto_prefilter_of : RegexSettings → Bool
auto_prefilter_of settings = unwrap_or settings.auto_prefilter true

-- the literals of the caller's prefilter
abbrev pub prefilter_of : RegexSettings → Option (List (List ℕ))
prefilter_of settings = unwrap_or settings.prefilter None

-- there are neither, so no scans
abbrev pub WantsNoLiterals : RegexSettings → Type 0
WantsNoLiterals settings =
    (auto_prefilter_of settings ≡ false) × (prefilter_of settings ≡ None)

-- which groups are noted
abbrev pub which_captures_of : RegexSettings → WhichCaptures
which_captures_of settings = unwrap_or settings.which_captures which.All

-- 40 times the weight of the patterns is at most this, if there is a limit
abbrev pub nfa_size_limit_of : RegexSettings → Option ℕ
nfa_size_limit_of settings = unwrap_or settings.nfa_size_limit (Some 10485760)

-- how many bytes the states in a cache may take, about
abbrev pub capacity_of : RegexSettings → ℕ
capacity_of settings = unwrap_or settings.hybrid_cache_capacity 2097152

-- whether to use the automaton whose states are made on demand
abbrev pub hybrid_of : RegexSettings → Bool
hybrid_of settings = unwrap_or settings.hybrid true

-- whether all states of an automaton are made in advance, if they are few
abbrev pub dfa_of : RegexSettings → Bool
dfa_of settings = unwrap_or settings.dfa true

-- and how few: the maximum number of bytes and of states, if there is a limit
abbrev pub dfa_size_limit_of : RegexSettings → Option ℕ
dfa_size_limit_of settings = unwrap_or settings.dfa_size_limit (Some 40960)

abbrev pub dfa_state_limit_of : RegexSettings → Option ℕ
dfa_state_limit_of settings = unwrap_or settings.dfa_state_limit (Some 30)

-- the maximum of a limit
abbrev pub most : Option ℕ → ℕ
most limit = unwrap_or limit (2 ^ 64 - 1)

-- the byte at which lines end for `^` and `$`
abbrev pub line_terminator_of : RegexSettings → ℕ
line_terminator_of settings = unwrap_or settings.line_terminator 10

-- ---- the settings of the engine for any search

abbrev pub engine_settings : RegexSettings → EngineSettings
engine_settings settings = record {
  match_kind = Some (match_kind_of settings);
  utf8_empty = Some (utf8_empty_of settings);
  line_terminator = Some (line_terminator_of settings);
  nfa_size_limit = Some (nfa_size_limit_of settings);
  which_captures = Some (which_captures_of settings);
}

-- the settings of a builder: the regex's, and those of the syntax
pub record RegexWanted : Type 0 where
  pub settings : RegexSettings
  pub syntax : Settings

abbrev pub engine_wanted : RegexWanted → Wanted
engine_wanted wanted = record {
  settings = engine_settings wanted.settings;
  syntax = wanted.syntax;
}

-- nothing is set
abbrev pub default_regex : RegexWanted
default_regex = record { settings = none_set; syntax = default_settings }
