-- Replacements of matches in a text. A template is a list of characters. A match is the list of its
-- groups 0 to 9, each a span of offsets or none; group 0 is the whole match.
use Rattle.std.specs.Prelude.{ℕ, ◌+◌, ◌-◌, ◌≤◌, ◌==◌, ◌&&◌, nat_le, Bool, if◌then◌else◌, List, [], ◌∷◌, ◌++◌, take, drop, Option, None, Some, slice_index_or, sum_by, chars, All, IfSome}
use Rattle.std.specs.Str.{IsCharBoundary}
use Rattle.str_indices.specs.Text.{byte_len}
use Rattle.rope_search_changes.specs.Text.{line_count}
use Rattle.rope_search_changes.specs.declared.Change.{Change}

-- the groups of a match
abbrev pub Groups : Type 0
Groups = List (Option (ℕ × ℕ))

-- the start and the end of the whole match
abbrev pub whole : Groups → ℕ × ℕ
whole (Some span ∷ others) = span
whole groups = (0, 0)

-- the groups of a match of which only the span is known
abbrev pub alone : ℕ × ℕ → Groups
alone span = Some span ∷ []

-- the text between two offsets
abbrev pub between : List ℕ → ℕ → ℕ → List ℕ
between content start end = chars (take (end - start) (drop start content))

-- the text of a span, if there is one
abbrev pub text_of_span : List ℕ → Option (ℕ × ℕ) → List ℕ
text_of_span content None = []
text_of_span content (Some span) = between content span.0 span.1

-- the text of a group, empty if the group is absent or not one of the pattern's
abbrev pub group_text : List ℕ → Groups → ℕ → List ℕ
group_text content groups number = text_of_span content (slice_index_or groups number None)

-- $ is 36, and the digits are 48 to 57
abbrev pub is_digit : ℕ → Bool
is_digit c = nat_le 48 c && nat_le c 57

-- The template at a match: `$` and a digit is that group's text, `$$` is a dollar, and every other
-- character is itself.
abbrev pub expand : List ℕ → Groups → List ℕ → List ℕ
expand content groups [] = []
expand content groups (c ∷ []) = c ∷ []
expand content groups (c ∷ d ∷ rest) =
    if (c == 36) && (d == 36) then 36 ∷ expand content groups rest
    else if (c == 36) && is_digit d
    then group_text content groups (d - 48) ++ expand content groups rest
    else c ∷ expand content groups (d ∷ rest)

-- The text from an offset on, with each match replaced by the template.
abbrev pub replaced : List ℕ → List ℕ → ℕ → List Groups → List ℕ
replaced content template at [] = chars (drop at content)
replaced content template at (match ∷ matches) =
    between content at (whole match).0 ++ expand content match template
    ++ replaced content template (whole match).1 matches

-- the number of lines that may be searched for that: for each match the lines of its replacement
abbrev pub searched : List ℕ → List ℕ → List Groups → ℕ
searched content template matches =
    sum_by (λ match. line_count (expand content match template)) matches

-- the matches are in order, from an offset on, and start and end at character boundaries
abbrev pub FollowEachOther : List ℕ → ℕ → List Groups → Type 0
FollowEachOther content at [] = Unit {0}
FollowEachOther content at (match ∷ matches) =
    (at ≤ (whole match).0) × ((whole match).0 ≤ (whole match).1)
    × IsCharBoundary content (whole match).0 × IsCharBoundary content (whole match).1
    × FollowEachOther content (whole match).1 matches

-- a span starts no later than it ends, both at character boundaries
pub record IsSpanIn (content : List ℕ) (span : ℕ × ℕ) : Type 0 where
  pub ordered : span.0 ≤ span.1
  pub starts : IsCharBoundary content span.0
  pub stops : IsCharBoundary content span.1

-- the spans of the groups that take part in a match do
abbrev pub HasSpansIn : List ℕ → Groups → Type 0
HasSpansIn content groups = All (λ group. IfSome group (IsSpanIn content)) groups

-- matches in a text, in order, with the spans of their groups
pub record AreMatchesIn (content : List ℕ) (matches : List Groups) : Type 0 where
  pub follow : FollowEachOther content 0 matches
  pub spans : All (HasSpansIn content) matches

-- the changes that replace matches, from two offsets on
abbrev pub changes_of : List ℕ → List ℕ → ℕ → ℕ → List Groups → List Change
changes_of content template at at_new [] = []
changes_of content template at at_new (match ∷ matches) =
    let start = at_new + ((whole match).0 - at) in
    let end = start + byte_len (expand content match template) in
    record { old_end = (whole match).1; new_start = start; new_end = end }
    ∷ changes_of content template (whole match).1 end matches
