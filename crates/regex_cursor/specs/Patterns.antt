-- The tree that a pattern's text spells, and the result of a search for it in a whole haystack:
-- words of the crates below, for the crates above.
use Rattle.std.specs.Prelude.{◌≡◌, ℕ, ◌≤◌, Bool, false, true, List, [], ◌∷◌, length, Option, None}
use Rattle.unicode.specs.Perl.{is_word_char}
use Rattle.rx_util.specs.declared.search.Anchored.TheVariants.{No}
pub use Rattle.rx_input.specs.Inputs.{Asked, InputState, between}
use Rattle.rx_utf8.specs.Automata.{is_in}
use Rattle.rx_sets.specs.Sets.{Range}
use Rattle.rx_grammar.specs.Grammar.{Spells}
use Rattle.rx_grammar.specs.Settings.{default_settings}
pub use Rattle.rx_grammar.specs.Trees.{Tree}
pub use Rattle.rx_grammar.specs.Weights.{pattern_weight}
use Rattle.rx_program.specs.Code.{program_of}
use Rattle.rx_walks.specs.Looks.{Look}
use Rattle.rx_walks.specs.Machines.{Outcome}
use Rattle.rx_walks.specs.Programs.{Notes, Program}
pub use Rattle.rx_walks.specs.Programs.{slot_of}
pub use Rattle.rx_steps.specs.Searching.{answer_slots}
pub use Rattle.rx_walks.specs.Finds.{Search, unanchored}
pub use Rattle.rx_walks.specs.Matches.{RepeatedFinds, Next, no_more, at_once, moved, BehindLast, ComesNext, FirstMatches}
pub use Rattle.rx_walks.specs.ProgramFinds.{ProgramFinds, ProgramMatches, ProgramFirstMatches, ProgramComesNext, finds_on, start_of, end_of}
pub use Rattle.rx_chunk.specs.Engines.{match_of}
pub use Rattle.rx_util.specs.Search.{Found}

-- ---- spelling

-- under the default settings the text, of at most 65,536 bytes of UTF-8, spells the tree
abbrev pub SpellsTree : List ℕ → Tree → Type 0
SpellsTree text tree = Spells text default_settings tree

-- it spells none
abbrev pub SpellsNone : List ℕ → Type 0
SpellsNone text = (tree : Tree) → SpellsTree text tree → ⊥

-- the maximum weight of a pattern of a regex by default
abbrev pub weight_limit : ℕ
weight_limit = 262144

-- ---- matches

-- a match with its start, its end and the offsets in its slots
abbrev pub FoundMatch : Type 0
FoundMatch = Outcome Notes

-- the program of a single tree; lines end in LF
abbrev pub program_for : Tree → Program Look (List Range)
program_for tree = program_of (tree ∷ []) 10

-- the search of a whole haystack from an offset on: look-around assertions see all of it, and an
-- empty match inside a character is skipped
abbrev pub search_from : List ℕ → ℕ → Search
search_from content from = record {
  content = content;
  slice_start = 0;
  slice_end = length content;
  start = from;
  end = length content;
  anchoring = unanchored;
  utf8_empty = true;
}

-- the search of all of a haystack, in which an empty match inside a character is skipped or isn't
abbrev pub search_part : Bool → List ℕ → Search
search_part utf8_empty content = record (search_from content 0) { utf8_empty = utf8_empty }

-- an input that requests it: a leftmost match from an offset on, and look-around assertions see all
-- of the haystack
pub record AsksFrom (content : List ℕ) (from : ℕ) (input : InputState) : Type 0 where
  pub content_is : input.cursor.content ≡ content
  pub asked_is : input.asked ≡ record {
    span = record { start = from; end = length content };
    slice = record { start = 0; end = length content };
    anchored = No;
    earliest = false;
  }

-- the result of a search for a tree
abbrev pub TreeFindsIn : Tree → Search → Option FoundMatch → Type 0
TreeFindsIn tree s found = ProgramFinds is_in is_word_char (program_for tree) s found

-- its result in a haystack from an offset on
abbrev pub TreeFinds : Tree → List ℕ → ℕ → Option FoundMatch → Type 0
TreeFinds tree content from found = TreeFindsIn tree (search_from content from) found

-- no part of a haystack between two offsets has a match of the tree, searched separately
abbrev pub HasNoMatchBetween : Tree → List ℕ → ℕ → ℕ → Type 0
HasNoMatchBetween tree content from to =
    (start end : ℕ) → from ≤ start → end ≤ to → TreeFinds tree (between start end content) 0 None

-- its matches in a haystack, in order: the first is found from the haystack's start, each further
-- one from the end of the one before, or one byte further on if that finds an empty match at that
-- end
abbrev pub TreeMatches : Tree → List ℕ → List FoundMatch → Type 0
TreeMatches tree content matches =
    ProgramMatches is_in is_word_char (program_for tree) (search_from content 0) matches

-- the first members of that list
abbrev pub FirstTreeMatches : Tree → List ℕ → List FoundMatch → Type 0
FirstTreeMatches tree content matches =
    ProgramFirstMatches is_in is_word_char (program_for tree) (search_from content 0) matches

-- the next match after these, or that there is none
abbrev pub ComesBehind : Tree → List ℕ → List FoundMatch → Option FoundMatch → Type 0
ComesBehind tree content matches found =
    ProgramComesNext is_in is_word_char (program_for tree) (search_from content 0) matches found
