-- The groups of one match in a line, and those of all matches in lines.
use Rattle.std.specs.Prelude.{◌≡◌, ◌<◌, ◌≤◌, ℕ, ◌+◌, ◌-◌, ◌^◌, List, [], ◌∷◌, ◌++◌, Option, All, map, min, option_map, slice_get}
use Rattle.std.specs.List.{flat_map}
use Rattle.regex_cursor.specs.Patterns.{Tree}
use Rattle.rope_search_reports.specs.Text.{IsText, bytes_of, line_count}
use Rattle.rope_search_reports.specs.Matches.{AreGroups}
use Rattle.rope_search_reports.specs.Position.{line_start, line_text}
use Rattle.rope_search_reports.specs.Replacement.{FollowEachOther, Groups, HasSpansIn, replaced, whole}
use Rattle.rope_search_reports.specs.Report.{IsRow, columns}
use Rattle.rope_search_reports.specs.Finders.{AreGroupsOf}
use Rattle.rope_search_reports.specs.Ticks.{Ticks}

-- each group by two columns, or none
abbrev pub in_columns : List ℕ → Groups → Groups
in_columns content groups = map (option_map (columns content)) groups

-- the groups 0 to 9 of the match of this number, from 0, among all of a pattern in a line, by their
-- columns; or that it has no such match
pub record TellsGroups (pattern line : List ℕ) (number : ℕ) (told : Option Groups) : Type 0 where
  pub all : List Groups
  pub are : AreGroups pattern (bytes_of line) all
  pub told_is : told ≡ option_map (in_columns (bytes_of line)) (slice_get all number)

-- and among all of a tree in a content, by their places
pub record IsAmongGroups (tree : Tree) (content : List ℕ) (number : ℕ) (told : Option Groups)
    : Type 0 where
  pub all : List Groups
  pub are : AreGroupsOf tree content all
  pub told_is : told ≡ slice_get all number

-- one row was made for them, as far as the count goes, and nothing else was searched or looked
-- through
pub record SearchesOneLine (old new : Ticks) : Type 0 where
  pub made : new.count ≡ min (old.count + 1) (2 ^ 64 - 1)
  pub grows : old.count ≤ new.count
  pub no_whole : new.wholes ≡ old.wholes
  pub no_look : new.looked ≡ old.looked

-- what is told of a match begins with what the line's row shows of it, and nothing is told exactly
-- where the row has no match of that number
abbrev pub GroupsAreOfRows : Type 0
GroupsAreOfRows = (pattern line : List ℕ) (row : List (ℕ × ℕ)) (number : ℕ) (told : Option Groups)
    → IsRow pattern line row → TellsGroups pattern line number told
    → option_map whole told ≡ slice_get row number

-- ---- all matches in lines, by offsets of the text

-- a span in a part of a text that starts at an offset, by offsets of the text
abbrev pub moved_span : ℕ → ℕ × ℕ → ℕ × ℕ
moved_span start span = (start + span.0, start + span.1)

abbrev pub moved : ℕ → Groups → Groups
moved start groups = map (option_map (moved_span start)) groups

-- the groups of all matches that the search of a line by itself finds, by offsets of the text
pub record AreGroupsOfLine (text pattern : List ℕ) (line : ℕ) (groups : List Groups) : Type 0 where
  pub inside : line < line_count text
  pub own : List Groups
  pub are : AreGroups pattern (bytes_of (line_text text line)) own
  pub moved_are : groups ≡ map (moved (line_start text line)) own

-- those of lines that follow each other: a list for each line, from this one on
abbrev pub AreGroupsOfLines : List ℕ → List ℕ → ℕ → List (List Groups) → Type 0
AreGroupsOfLines text pattern line [] = Unit {0}
AreGroupsOfLines text pattern line (groups ∷ others) =
    AreGroupsOfLine text pattern line groups × AreGroupsOfLines text pattern (line + 1) others

-- the matches of all these lines, those of the first line first
abbrev pub joined : List (List Groups) → List Groups
joined lists = flat_map (λ groups. groups) lists

-- those of a line are added to a list; their groups start and end at boundaries of the text
pub record AddsGroupsOfLine (text pattern : List ℕ) (line : ℕ) (old new : List Groups)
    : Type 0 where
  pub groups : List Groups
  pub are : AreGroupsOfLine text pattern line groups
  pub spans : All (HasSpansIn (bytes_of text)) groups
  pub added : new ≡ old ++ groups

-- so they are of a tree in the content of a line that starts at an offset
pub record AddsGroupsOf (tree : Tree) (content : List ℕ) (start : ℕ) (old new : List Groups)
    : Type 0 where
  pub own : List Groups
  pub are : AreGroupsOf tree content own
  pub spans : All (HasSpansIn content) own
  pub added : new ≡ old ++ map (moved start) own

-- the matches of lines follow each other in the text
abbrev pub LineMatchesFollow : Type 0
LineMatchesFollow = (text pattern : List ℕ) (line : ℕ) (lists : List (List Groups)) → IsText text
    → AreGroupsOfLines text pattern line lists → FollowEachOther (bytes_of text) 0 (joined lists)

-- a text in which they are replaced is a text
abbrev pub LineReplacedIsText : Type 0
LineReplacedIsText = (text pattern template : List ℕ) (line : ℕ) (lists : List (List Groups))
    → IsText text → IsText template → AreGroupsOfLines text pattern line lists
    → IsText (replaced (bytes_of text) template 0 (joined lists))
