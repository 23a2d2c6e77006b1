-- Which texts are patterns, and what a search for one finds. A pattern is a regular expression with
-- the default settings of a regex.
use Rattle.std.specs.Prelude.{◌≡◌, ℕ, ◌<◌, ◌≤◌, List, Option, option_map}
use Rattle.regex_cursor.specs.Patterns.{Tree, SpellsTree, FoundMatch, TreeFinds, pattern_weight, start_of, end_of}
pub use Rattle.regex_cursor.specs.Patterns.{SpellsNone, weight_limit}

-- ---- which texts are patterns

-- a pattern has at most this many bytes
abbrev pub pattern_limit : ℕ
pattern_limit = 65536

-- the text, within that limit, spells this tree, whose weight is at most 262,144
pub record IsPatternOf (text : List ℕ) (tree : Tree) : Type 0 where
  pub spells : SpellsTree text tree
  pub light : pattern_weight tree ≤ weight_limit

-- it is a pattern
abbrev pub IsPattern : List ℕ → Type 0
IsPattern text = (tree : Tree) × IsPatternOf text tree

-- it would be one, but is too heavy
pub record IsTooHeavy (text : List ℕ) : Type 0 where
  pub tree : Tree
  pub spells : SpellsTree text tree
  pub heavy : weight_limit < pattern_weight tree

-- ---- what a pattern finds in a haystack, which is a list of bytes

-- a match's span: the offsets where it starts and where it ends
abbrev pub span_of : FoundMatch → ℕ × ℕ
span_of found = (start_of found, end_of found)

-- what a search for a pattern finds from an offset on, in the whole haystack: look-around
-- assertions see the text before the offset
pub record FindsMatch (pattern content : List ℕ) (from : ℕ) (found : Option FoundMatch) : Type 0 where
  pub tree : Tree
  pub spells : SpellsTree pattern tree
  pub finds : TreeFinds tree content from found

-- the span only
pub record FindsSpan (pattern content : List ℕ) (from : ℕ) (span : Option (ℕ × ℕ)) : Type 0 where
  pub found : Option FoundMatch
  pub is : FindsMatch pattern content from found
  pub span_is : span ≡ option_map span_of found
