-- What an engine holds of patterns, and what it was built from.
use Rattle.std.specs.Prelude.{◌≡◌, ◌↔◌, ◌<◌, ◌≤◌, ℕ, ◌+◌, Bool, true, List, [], ◌∷◌, All, length, take, sum_by, Option, Some, None, slice_get, unwrap_or}
use Rattle.std.specs.Option.{option_or}
use Rattle.std.specs.Str.{chars}
use Rattle.rx_util.specs.declared.search.MatchKind.{MatchKind}
use Rattle.rx_util.specs.declared.search.MatchKind.TheVariants.{LeftmostFirst}
use Rattle.rx_util.specs.declared.captures.WhichCaptures.{WhichCaptures}
use Rattle.rx_util.specs.declared.captures.WhichCaptures.TheVariants as which
use Rattle.rx_util.specs.Groups.{GroupNames, Name, noted_groups}
use Rattle.rx_grammar.specs.declared.error.SyntaxError.{SyntaxError}
use Rattle.rx_grammar.specs.declared.error.SyntaxError.TheVariants as errors
use Rattle.rx_grammar.specs.Trees.{Tree, numbers_of}
use Rattle.rx_grammar.specs.Subtrees.{HasName, IsWellFormed}
use Rattle.rx_grammar.specs.StaticGroups.{static_captures_of_all}
use Rattle.rx_grammar.specs.Settings.{Settings, default_settings}
use Rattle.rx_grammar.specs.Grammar.{Spells, IsTooDeep, NeverSpells}
use Rattle.rx_program.specs.declared.error.BuildError.{BuildError}
use Rattle.rx_program.specs.declared.error.BuildError.TheVariants as build
use Rattle.rx_program.specs.Code.{program_of}
use Rattle.rx_program.specs.Programs.{ByteProgram, character_program}
use Rattle.rx_program.specs.Sizes.{IsTooLarge, told_limit, weight_of_all}

-- a program, which match is reported, the groups of its patterns that are captured, which kind
-- these are, the number of all groups, the number of groups in every match if it is the same for
-- all, and whether empty matches inside a character are skipped
pub record Engine : Type 0 where
  pub program : ByteProgram
  pub match_kind : MatchKind
  pub groups : GroupNames
  pub which_captures : WhichCaptures
  pub captures_len : ℕ
  pub static_captures_len : Option ℕ
  pub utf8_empty : Bool

-- settings that were set; the others have their defaults
pub record EngineSettings : Type 0 where
  pub match_kind : Option MatchKind
  pub utf8_empty : Option Bool
  pub line_terminator : Option ℕ
  -- the size limit of a program in bytes, as upstream measures it, or no limit
  pub nfa_size_limit : Option (Option ℕ)
  pub which_captures : Option WhichCaptures

abbrev pub nothing_set : EngineSettings
nothing_set = record {
  match_kind = None;
  utf8_empty = None;
  line_terminator = None;
  nfa_size_limit = None;
  which_captures = None;
}

-- the limit that was set; without one a program may weigh as much as state numbers allow
abbrev pub size_limit_of : EngineSettings → Option ℕ
size_limit_of settings = unwrap_or settings.nfa_size_limit None

-- the settings of the first, with those of the second where they aren't set
abbrev pub settings_over : EngineSettings → EngineSettings → EngineSettings
settings_over new old = record {
  match_kind = option_or new.match_kind old.match_kind;
  utf8_empty = option_or new.utf8_empty old.utf8_empty;
  line_terminator = option_or new.line_terminator old.line_terminator;
  nfa_size_limit = option_or new.nfa_size_limit old.nfa_size_limit;
  which_captures = option_or new.which_captures old.which_captures;
}

-- what a builder was given: the engine's settings, and those of the syntax
pub record Wanted : Type 0 where
  pub settings : EngineSettings
  pub syntax : Settings

-- nothing was given
abbrev pub by_default : Wanted
by_default = record { settings = nothing_set; syntax = default_settings }

-- these are the names of a tree's groups, from group 1 on
pub record AreNamesOf (tree : Tree) (names : List (Option Name)) : Type 0 where
  pub count : length names ≡ length (numbers_of tree)
  pub named : (k : ℕ) (name : Name)
      → (slice_get names k ≡ Some (Some name)) ↔ HasName tree (k + 1) name

-- the groups of several trees, those of each from group 1 on
abbrev pub AreGroupNamesOf : List Tree → GroupNames → Type 0
AreGroupNamesOf [] groups = groups ≡ []
AreGroupNamesOf (tree ∷ trees) [] = ⊥
AreGroupNamesOf (tree ∷ trees) (names ∷ groups) = AreNamesOf tree names
    × AreGroupNamesOf trees groups

-- the groups that are captured: all, or only the groups 0
pub record AreNotedOf (which : WhichCaptures) (trees : List Tree)
    (groups : GroupNames) : Type 0 where
  pub all_groups : GroupNames
  pub are_groups : AreGroupNamesOf trees all_groups
  pub noted : groups ≡ noted_groups which all_groups

-- the number of groups of all trees, including the whole match of each
abbrev pub captures_len_of : List Tree → ℕ
captures_len_of trees = sum_by (λ tree. length (numbers_of tree) + 1) trees

-- the program and the groups of an engine are those of these well-formed trees
pub record IsOfTrees (e : Engine) (trees : List Tree) : Type 0 where
  pub well_formed : All IsWellFormed trees
  pub program : character_program e.program ≡ program_of trees e.program.line_terminator
  pub groups : AreNotedOf e.which_captures trees e.groups
  pub captures_len : e.captures_len ≡ captures_len_of trees
  pub static_captures_len : e.static_captures_len ≡ static_captures_of_all trees

abbrev pub IsEngine : Engine → Type 0
IsEngine e = (trees : List Tree) × IsOfTrees e trees

-- it was built from these trees, which together aren't too large
pub record IsBuiltOfTrees (trees : List Tree) (settings : EngineSettings) (e : Engine)
    : Type 0 where
  pub fits : IsTooLarge (size_limit_of settings) (weight_of_all trees) → ⊥
  pub of_trees : IsOfTrees e trees
  pub match_kind : e.match_kind ≡ unwrap_or settings.match_kind LeftmostFirst
  pub line_terminator : e.program.line_terminator ≡ unwrap_or settings.line_terminator 10
  pub utf8_empty : e.utf8_empty ≡ unwrap_or settings.utf8_empty true
  pub which_captures : e.which_captures ≡ unwrap_or settings.which_captures which.All

-- it was built from a pattern: from the tree of its text
pub record IsBuiltOf (text : List ℕ) (wanted : Wanted) (e : Engine) : Type 0 where
  pub tree : Tree
  pub spells : Spells (chars text) wanted.syntax tree
  pub built : IsBuiltOfTrees (tree ∷ []) wanted.settings e

-- each text, given as bytes, has the tree at the same index
abbrev pub Spell : List (List ℕ) → Settings → List Tree → Type 0
Spell [] syntax trees = trees ≡ []
Spell (text ∷ texts) syntax [] = ⊥
Spell (text ∷ texts) syntax (tree ∷ trees) =
    Spells (chars text) syntax tree × Spell texts syntax trees

-- it was built from patterns: from the trees of their texts
pub record IsBuiltOfAll (texts : List (List ℕ)) (wanted : Wanted) (e : Engine) : Type 0 where
  pub trees : List Tree
  pub spell : Spell texts wanted.syntax trees
  pub built : IsBuiltOfTrees trees wanted.settings e

-- why a text has no tree
pub data IsRefusedText (text : List ℕ) (syntax : Settings) : SyntaxError → Type 0 where
  too_long : 65536 < length text → IsRefusedText text syntax errors.TooLong
  nesting : IsTooDeep (chars text) syntax → IsRefusedText text syntax errors.Nesting
  outside : length text ≤ 65536 → NeverSpells (chars text) syntax
      → IsRefusedText text syntax errors.Outside

-- why these trees have no engine with these settings
pub data AreRefused (trees : List Tree) (settings : EngineSettings) : BuildError → Type 0 where
  too_large : IsTooLarge (size_limit_of settings) (weight_of_all trees)
      → AreRefused trees settings (build.Size (told_limit (size_limit_of settings)))
  no_memory : AreRefused trees settings build.Memory

-- why a pattern, given as bytes, has no engine with these settings
pub data IsRefused (text : List ℕ) (wanted : Wanted) : BuildError → Type 0 where
  by_text : {error : SyntaxError} → IsRefusedText text wanted.syntax error
      → IsRefused text wanted (build.Syntax 0 error)
  by_weight : {error : BuildError} (tree : Tree) → Spells (chars text) wanted.syntax tree
      → AreRefused (tree ∷ []) wanted.settings error → IsRefused text wanted error
  memory : IsRefused text wanted build.Memory

-- why patterns have no engine: one is refused and each before it has a tree; or all have trees, and
-- these are refused
pub data IsRefusedOfAll (texts : List (List ℕ)) (wanted : Wanted) : BuildError → Type 0 where
  by_first_text : {k : ℕ} {error : SyntaxError} (text : List ℕ) (trees : List Tree)
      → slice_get texts k ≡ Some text → Spell (take k texts) wanted.syntax trees
      → IsRefusedText text wanted.syntax error
      → IsRefusedOfAll texts wanted (build.Syntax k error)
  by_weight_of_all : {error : BuildError} (trees : List Tree) → Spell texts wanted.syntax trees
      → AreRefused trees wanted.settings error → IsRefusedOfAll texts wanted error
  want_of_memory : IsRefusedOfAll texts wanted build.Memory

-- why the pattern with this number has no engine: its text is refused, or memory ran out
pub data IsRefusedAt (k : ℕ) (text : List ℕ) (syntax : Settings) : BuildError → Type 0 where
  text_there : {error : SyntaxError} → IsRefusedText text syntax error
      → IsRefusedAt k text syntax (build.Syntax k error)
  memory_there : IsRefusedAt k text syntax build.Memory

-- the error of building for an error of parsing the pattern with this number
abbrev pub refusal_of : ℕ → SyntaxError → BuildError
refusal_of k errors.Memory = build.Memory
refusal_of k error = build.Syntax k error
