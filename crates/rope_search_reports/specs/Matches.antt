-- The matches of a pattern in a haystack, in order: the first is searched for from the haystack's
-- start, each further one from the end of the one before, or one byte further on if that finds an
-- empty match at that end.
use Rattle.std.specs.Prelude.{◌≡◌, ℕ, ◌+◌, ◌*◌, List, ◌∷◌, Option, None, Some, map}
use Rattle.std.specs.List.{range_with_len}
use Rattle.regex_cursor.specs.Patterns.{Tree, SpellsTree, FoundMatch, TreeMatches, slot_of}
use Rattle.rope_search_changes.specs.FirstGroups.{first_groups}
use Rattle.rope_search_reports.specs.Pattern.{span_of}

-- all matches, with their groups
pub record AreMatches (pattern content : List ℕ) (matches : List FoundMatch) : Type 0 where
  pub tree : Tree
  pub spells : SpellsTree pattern tree
  pub are : TreeMatches tree content matches

-- their spans
pub record IsMatches (pattern content : List ℕ) (spans : List (ℕ × ℕ)) : Type 0 where
  pub matches : List FoundMatch
  pub are : AreMatches pattern content matches
  pub spans_are : spans ≡ map span_of matches

-- ---- groups

-- both offsets, if both exist
abbrev pub both : Option ℕ → Option ℕ → Option (ℕ × ℕ)
both None end = None
both (Some start) None = None
both (Some start) (Some end) = Some (start, end)

-- the span of a match's group, if it takes part in the match
abbrev pub group_of : FoundMatch → ℕ → Option (ℕ × ℕ)
group_of found k = both (slot_of found.notes (2 * k)) (slot_of found.notes (2 * k + 1))

-- the spans of groups 0 to 9; group 0 is the whole match
abbrev pub groups_of : FoundMatch → List (Option (ℕ × ℕ))
groups_of found = Some (span_of found) ∷ map (group_of found) (range_with_len 1 9)

-- the groups 0 to 9 of all matches
pub record AreGroups (pattern content : List ℕ) (groups : List (List (Option (ℕ × ℕ)))) : Type 0 where
  pub matches : List FoundMatch
  pub are : AreMatches pattern content matches
  pub groups_are : groups ≡ map groups_of matches

-- the first groups of all matches, this number for each; the others are absent
pub record AreFirstGroups (count : ℕ) (pattern content : List ℕ)
    (groups : List (List (Option (ℕ × ℕ))))
    : Type 0 where
  pub all : List (List (Option (ℕ × ℕ)))
  pub are : AreGroups pattern content all
  pub first : groups ≡ map (first_groups count) all
