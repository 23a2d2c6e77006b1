-- The replacements of matches in a text.
use Rattle.std.specs.Prelude.{ℕ, List}
use Rattle.rope_search_changes.specs.Text.{IsText, bytes_of}
use Rattle.rope_search_changes.specs.Changes.{AreChanges}
pub use Rattle.rope_search_changes.specs.Replacement.{Groups, whole, alone, between, text_of_span, group_text, is_digit, expand, replaced, searched, FollowEachOther, IsSpanIn, HasSpansIn, AreMatchesIn, changes_of}

-- To replace matches is to make changes: all text outside them stays, in order; and this bounds the
-- lines to search.
abbrev pub ReplacementsAreChanges : Type 0
ReplacementsAreChanges = (text template : List ℕ) (matches : List Groups) → IsText text
    → FollowEachOther (bytes_of text) 0 matches
    → AreChanges (changes_of (bytes_of text) template 0 0 matches) 0 0 text
    (replaced (bytes_of text) template 0 matches) (searched (bytes_of text) template matches)
