-- The parts of a finder, for the contracts of the code that searches.
use Rattle.std.specs.Prelude.{◌≡◌, ℕ, ◌+◌, ◌*◌, Bool, true, List, [], ◌∷◌, ◌++◌, length, Option, None, option_map, slice_index_or, unwrap_or, map}
use Rattle.std.specs.Str.{chars}
use Rattle.regex_cursor.specs.Patterns.{Tree, FoundMatch, TreeFinds, TreeMatches, answer_slots}
use Rattle.regex_cursor.specs.Regexes.{RegexView, IsRegexOf}
use Rattle.rope_search_changes.specs.FirstGroups.{first_groups}
use Rattle.rope_search_reports.specs.Text.{bytes_of}
use Rattle.rope_search_reports.specs.Matches.{both, groups_of}
use Rattle.rope_search_reports.specs.Pattern.{span_of}
use Rattle.rope_search_reports.specs.Report.{columns}
use Rattle.rope_search_reports.specs.declared.rows.matches.Found.{Found}
use Rattle.rope_search_reports.specs.declared.rows.matches.Found.TheVariants.{Nothing, One, Many}
use Rattle.rope_search_reports.specs.declared.pattern_text.Text.{Text, Start, Longer'}

-- the characters of a text that takes no bytes at run time
abbrev pub characters_of : Text → List ℕ
characters_of Start = []
characters_of (Longer' shape before c) = characters_of before ++ c ∷ []

-- the stored matches of a row
abbrev pub matches_in : Found → List (ℕ × ℕ)
matches_in Nothing = []
matches_in (One one) = one.value ∷ []
matches_in (Many list) = list.value.items

-- a regex built from this pattern, and whether it is known that it doesn't match the empty text
pub record IsFinderOf (pattern : List ℕ) (re : RegexView) (is_never_empty : Bool) : Type 0 where
  pub text : List ℕ
  pub pattern_is : pattern ≡ chars text
  pub built : IsRegexOf text re
  pub never_empty : is_never_empty ≡ true → TreeFinds built.tree [] 0 None

-- where a search for the next match starts
abbrev pub start_behind : Option ℕ → ℕ
start_behind last = unwrap_or last 0

-- a search that has begun: its haystack, where its last match ended, if there was one, whether it
-- has ended, and the regex that began it
pub record PassState : Type 0 where
  pub content : List ℕ
  pub last : Option ℕ
  pub is_over : Bool
  pub by : RegexView

-- the span of a group, from the offsets in its two slots
abbrev pub group_told : List (Option ℕ) → ℕ → Option (ℕ × ℕ)
group_told slots k = both (slice_index_or slots (2 * k) None) (slice_index_or slots (2 * k + 1) None)

-- a match is found; this is its span, and the slots have the offsets of its groups
pub record FinderTells (P : Option FoundMatch → Type 0) (span : Option (ℕ × ℕ))
    (slots : List (Option ℕ))
    : Type 0 where
  pub out : Option FoundMatch
  pub is : P out
  pub span_is : span ≡ option_map span_of out
  pub slots_are : slots ≡ answer_slots (length slots) out

-- the groups of the matches of a tree in a whole haystack
pub record AreGroupsOf (tree : Tree) (content : List ℕ) (groups : List (List (Option (ℕ × ℕ))))
    : Type 0 where
  pub matches : List FoundMatch
  pub are : TreeMatches tree content matches
  pub shown : groups ≡ map groups_of matches

-- the first of them, this number for each match; the others are absent
pub record AreFirstGroupsOf (count : ℕ) (tree : Tree) (content : List ℕ)
    (groups : List (List (Option (ℕ × ℕ))))
    : Type 0 where
  pub all : List (List (Option (ℕ × ℕ)))
  pub are : AreGroupsOf tree content all
  pub first : groups ≡ map (first_groups count) all

-- the spans only
pub record AreSpansOf (tree : Tree) (content : List ℕ) (spans : List (ℕ × ℕ)) : Type 0 where
  pub matches : List FoundMatch
  pub are : TreeMatches tree content matches
  pub shown : spans ≡ map span_of matches

-- the row of a line by this tree: its matches, with the line's text as the whole haystack
pub record IsRowOf (tree : Tree) (line : List ℕ) (row : List (ℕ × ℕ)) : Type 0 where
  pub matches : List FoundMatch
  pub are : TreeMatches tree (bytes_of line) matches
  pub shown : row ≡ map (columns (bytes_of line)) (map span_of matches)
