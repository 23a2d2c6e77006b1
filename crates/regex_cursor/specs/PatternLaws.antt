-- Laws of the spelling of patterns, and of searches for them.
use Rattle.std.specs.Prelude.{◌≡◌, ◌⊎◌, ℕ, ◌*◌, ◌<◌, ◌≤◌, false, List, length, Option, Some, option_map}
use Rattle.std.specs.Str.{chars}
use Rattle.unicode.specs.Perl.{is_word_char}
use Rattle.rx_util.specs.Search.{Found}
use Rattle.rx_utf8.specs.Automata.{is_in}
use Rattle.rx_input.specs.Inputs.{InputState}
use Rattle.rx_program.specs.declared.error.BuildError.{BuildError}
use Rattle.rx_program.specs.declared.error.BuildError.TheVariants.{Syntax, Size, Memory}
pub use Rattle.rx_program.specs.Laws.{HasNoted, IsNotedWhole, noted, not_noted}
pub use Rattle.rx_walks.specs.Finds.{IsInside, IsPossible, MayEnd}
pub use Rattle.rx_walks.specs.Laws.{FindsAtMostOne, FindsExist, FindsLieInside, FindsStandAtBoundaries, LiesInside, MatchesAreOneList, MayBeFound, StandsAtBoundaries}
pub use Rattle.rx_walks.specs.MatchLaws.{AreInOrder, FirstMatchesGrow, HasFirstMatches, IsFoundBehind, LiesBetween, MatchesAreFound, MatchesExist, MatchesRise, MatchesStandAtBoundaries}
use Rattle.regex_cursor.specs.Patterns.{Tree, Search, SpellsTree, SpellsNone, FoundMatch, AsksFrom, TreeFinds, TreeFindsIn, answer_slots, match_of, pattern_weight, program_for, start_of, weight_limit}
use Rattle.regex_cursor.specs.Regexes.{RegexView, IsRegexOf, IsRefusedAsRegex, TellsMatch, TellsSlots, search_by}

-- a text spells at most one tree
abbrev pub SpellsOneTree : Type 0
SpellsOneTree =
    (text : List ℕ) (tree other : Tree) → SpellsTree text tree → SpellsTree text other → tree ≡ other

-- it spells a tree, or it spells none
abbrev pub SpellsTreeOrNone : Type 0
SpellsTreeOrNone = (text : List ℕ) → ((tree : Tree) × SpellsTree text tree) ⊎ SpellsNone text

-- searches for a tree: a search has exactly one result, and there is exactly one list of matches;
-- where these are in the haystack, and that they are whole characters; and the first members of the
-- list
pub record HasFinds (tree : Tree) : Type 0 where
  pub one_find : FindsAtMostOne is_in is_word_char (program_for tree)
  pub has_find : FindsExist is_in is_word_char (program_for tree)
  pub inside : FindsLieInside is_in is_word_char (program_for tree)
  pub at_boundaries : FindsStandAtBoundaries is_in is_word_char (program_for tree)
  pub one_list : MatchesAreOneList is_in is_word_char (program_for tree)
  pub has_list : MatchesExist is_in is_word_char (program_for tree)
  pub found : MatchesAreFound is_in is_word_char (program_for tree)
  pub rise : MatchesRise is_in is_word_char (program_for tree)
  pub list_at_boundaries : MatchesStandAtBoundaries is_in is_word_char (program_for tree)
  pub first : FirstMatchesGrow is_in is_word_char (program_for tree)

-- ---- regexes

-- what an error means for a pattern's text, given as its bytes
abbrev pub SaysOfText : List ℕ → BuildError → Type 0
SaysOfText text (Syntax pattern error) = (65536 < length text) ⊎ SpellsNone (chars text)
SaysOfText text (Size limit) =
    (tree : Tree) × SpellsTree (chars text) tree × (weight_limit < pattern_weight tree)
SaysOfText text Memory = Unit {0}

-- a match has noted its start and its end in the slots of group 0, and of the two slots of each
-- group both, in order, or neither
pub record HasNotedGroups (t : FoundMatch) : Type 0 where
  pub whole : HasNoted (start_of t) t
  pub groups : (k : ℕ) → IsNotedWhole t.notes (2 * k)

-- A regex built from a pattern searches for the tree that the pattern spells, which isn't too
-- heavy. Its result for an input, unless any match may be returned, is that of the tree in the
-- search that the input requests, also in slots, and each match of that tree has noted its groups.
-- The same holds for an input over a haystack from an offset on. An error says why there is none.
pub record RegexesHaveTrees : Type 0 where
  pub spells : (text : List ℕ) (re : RegexView) → (built : IsRegexOf text re)
      → SpellsTree (chars text) built.tree
  pub light : (text : List ℕ) (re : RegexView) → (built : IsRegexOf text re)
      → pattern_weight built.tree ≤ weight_limit
  pub tells : (text : List ℕ) (re : RegexView) → (built : IsRegexOf text re)
      → (input : InputState) (found : Option Found) → input.asked.earliest ≡ false
      → TellsMatch re.engine input found
      → (out : Option FoundMatch) × TreeFindsIn built.tree (search_by re.engine input) out
      × (found ≡ option_map match_of out)
  pub tells_slots : (text : List ℕ) (re : RegexView) → (built : IsRegexOf text re)
      → (input : InputState) (pattern : Option ℕ) (slots : List (Option ℕ))
      → input.asked.earliest ≡ false → TellsSlots re.engine input pattern slots
      → (out : Option FoundMatch) × TreeFindsIn built.tree (search_by re.engine input) out
      × (pattern ≡ option_map (λ t. t.pattern) out) × (slots ≡ answer_slots (length slots) out)
  pub notes : (text : List ℕ) (re : RegexView) → (built : IsRegexOf text re)
      → (s : Search) (t : FoundMatch) → TreeFindsIn built.tree s (Some t) → HasNotedGroups t
  pub finds : (text : List ℕ) (re : RegexView) → (built : IsRegexOf text re)
      → (content : List ℕ) (from : ℕ) (input : InputState) (found : Option Found)
      → AsksFrom content from input → TellsMatch re.engine input found
      → (out : Option FoundMatch) × TreeFinds built.tree content from out
      × (found ≡ option_map match_of out)
  pub slots : (text : List ℕ) (re : RegexView) → (built : IsRegexOf text re)
      → (content : List ℕ) (from : ℕ) (input : InputState) (pattern : Option ℕ)
      (slots : List (Option ℕ)) → AsksFrom content from input
      → TellsSlots re.engine input pattern slots
      → (out : Option FoundMatch) × TreeFinds built.tree content from out
      × (pattern ≡ option_map (λ t. t.pattern) out) × (slots ≡ answer_slots (length slots) out)
  pub noted : (text : List ℕ) (re : RegexView) → (built : IsRegexOf text re)
      → (content : List ℕ) (from : ℕ) (t : FoundMatch)
      → TreeFinds built.tree content from (Some t) → HasNotedGroups t
  pub refused : (text : List ℕ) (error : BuildError) → IsRefusedAsRegex text error
      → SaysOfText text error
