-- Laws of the definitions themselves.
use Rattle.std.specs.Prelude.{◌≡◌, ◌⊎◌, ℕ, ◌+◌, ◌<◌, ◌≤◌, List, [], length, Option, Some, All, slice_index_or}
use Rattle.std.specs.Str.{IsCharBoundary}
use Rattle.rope_search_reports.specs.Text.{IsText, bytes_of, line_count}
use Rattle.rope_search_reports.specs.Pattern.{IsPattern, IsTooHeavy, SpellsNone, FindsSpan}
use Rattle.rope_search_reports.specs.Matches.{AreGroups, IsMatches}
use Rattle.rope_search_reports.specs.Position.{line_at, IsAt, StandsAtBoundaries, LiesInPlace}
use Rattle.rope_search_reports.specs.Report.{IsReport, match_count}
use Rattle.rope_search_reports.specs.Replacement.{Groups, replaced, FollowEachOther}

-- a text is a pattern, would be one but is too heavy, or spells nothing
abbrev pub IsPatternOrNot : Type 0
IsPatternOrNot = (text : List ℕ) → IsPattern text ⊎ (IsTooHeavy text ⊎ SpellsNone text)

-- no two of these hold of one text
pub record IsOneOfThree : Type 0 where
  pub not_heavy : (text : List ℕ) → IsPattern text → IsTooHeavy text → ⊥
  pub some : (text : List ℕ) → IsPattern text → SpellsNone text → ⊥
  pub heavy_some : (text : List ℕ) → IsTooHeavy text → SpellsNone text → ⊥

-- a search for a pattern from an offset on has at most one result
abbrev pub FindsOne : Type 0
FindsOne = (pattern content : List ℕ) (from : ℕ) (span span' : Option (ℕ × ℕ))
    → FindsSpan pattern content from span → FindsSpan pattern content from span' → span ≡ span'

-- it has one: a match, or that there is none
abbrev pub HasFind : Type 0
HasFind = (pattern content : List ℕ) (from : ℕ) → IsPattern pattern
    → (span : Option (ℕ × ℕ)) × FindsSpan pattern content from span

-- a match in a text starts at the start of the search or after it, and consists of whole characters
pub record IsInText (text : List ℕ) (from : ℕ) (span : ℕ × ℕ) : Type 0 where
  pub behind : from ≤ span.0
  pub ordered : span.0 ≤ span.1
  pub starts : IsCharBoundary (bytes_of text) span.0
  pub ends : IsCharBoundary (bytes_of text) span.1

-- a match found in a text is such a match
abbrev pub FindsAreInText : Type 0
FindsAreInText = (text pattern : List ℕ) (from : ℕ) (span : ℕ × ℕ)
    → IsText text → FindsSpan pattern (bytes_of text) from (Some span) → IsInText text from span

-- a pattern has at most one list of matches in a haystack
abbrev pub HasOneListOfMatches : Type 0
HasOneListOfMatches = (pattern content : List ℕ) (spans spans' : List (ℕ × ℕ))
    → IsMatches pattern content spans → IsMatches pattern content spans' → spans ≡ spans'

-- it has one
abbrev pub HasMatches : Type 0
HasMatches = (pattern content : List ℕ) → IsPattern pattern
    → (spans : List (ℕ × ℕ)) × IsMatches pattern content spans

-- a pattern has at most one list of groups of matches in a haystack
abbrev pub HasOneListOfGroups : Type 0
HasOneListOfGroups = (pattern content : List ℕ) (groups groups' : List Groups)
    → AreGroups pattern content groups → AreGroups pattern content groups' → groups ≡ groups'

-- it has one
abbrev pub HasGroups : Type 0
HasGroups = (pattern content : List ℕ) → IsPattern pattern
    → (groups : List Groups) × AreGroups pattern content groups

-- there is at most one more than the haystack has bytes
abbrev pub MatchesAreFew : Type 0
MatchesAreFew = (pattern content : List ℕ) (groups : List Groups)
    → AreGroups pattern content groups → length groups ≤ length content + 1

-- in a text they follow each other, at character boundaries
abbrev pub GroupsFollowEachOther : Type 0
GroupsFollowEachOther = (text pattern : List ℕ) (groups : List Groups) → IsText text
    → AreGroups pattern (bytes_of text) groups → FollowEachOther (bytes_of text) 0 groups

-- a text in which all matches are replaced is a text
abbrev pub ReplacedIsText : Type 0
ReplacedIsText = (text pattern template : List ℕ) (groups : List Groups) → IsText text
    → IsText template → AreGroups pattern (bytes_of text) groups
    → IsText (replaced (bytes_of text) template 0 groups)

-- a report has at most one match more than its text has bytes
abbrev pub HasFewMatches : Type 0
HasFewMatches = (text pattern : List ℕ) (rows : List (List (ℕ × ℕ)))
    → IsReport text pattern rows → match_count rows ≤ length (bytes_of text) + 1

-- a text and a pattern have at most one report
abbrev pub HasOneReport : Type 0
HasOneReport = (text pattern : List ℕ) (rows rows' : List (List (ℕ × ℕ)))
    → IsReport text pattern rows → IsReport text pattern rows' → rows ≡ rows'

-- they have one
abbrev pub HasReport : Type 0
HasReport = (text pattern : List ℕ) → IsPattern pattern
    → (rows : List (List (ℕ × ℕ))) × IsReport text pattern rows

-- a report has one row for each line
abbrev pub HasARowALine : Type 0
HasARowALine = (text pattern : List ℕ) (rows : List (List (ℕ × ℕ)))
    → IsReport text pattern rows → length rows ≡ line_count text

-- each offset is in one of the lines, also one after the text
abbrev pub PlacesAreInLines : Type 0
PlacesAreInLines = (text : List ℕ) (place : ℕ) → line_at text place < line_count text

-- a position has at most one offset
abbrev pub HasOnePlace : Type 0
HasOnePlace = (text : List ℕ) (spot : ℕ × ℕ) (place place' : ℕ)
    → IsText text → IsAt text spot place → IsAt text spot place' → place ≡ place'

-- each match of a report starts and ends at a boundary of the text, in its row's line
abbrev pub MatchesStandAtBoundaries : Type 0
MatchesStandAtBoundaries = (text pattern : List ℕ) (rows : List (List (ℕ × ℕ))) (line : ℕ)
    → IsText text → IsReport text pattern rows
    → All (StandsAtBoundaries text line) (slice_index_or rows line [])

-- each line of a text is in its place
abbrev pub HasLinesInPlace : Type 0
HasLinesInPlace = (text : List ℕ) (line : ℕ) → line < line_count text → LiesInPlace text line
