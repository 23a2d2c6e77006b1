-- Laws of replacing.
use Rattle.std.specs.Prelude.{◌≡◌, ℕ, false, List, map}
use Rattle.rope_search_changes.specs.FirstGroups.{first_groups}
use Rattle.rope_search_changes.specs.Replacement.{Groups, alone, whole, replaced, searched, changes_of}
use Rattle.rope_search_templates.specs.Templates.{NeedsGroups, names_explicit_groups}

-- with both lists of matches a template makes the same text, by the same changes, which may search
-- as many lines
pub record ReplaceAlike (content template : List ℕ) (matches others : List Groups) : Type 0 where
  pub text : replaced content template 0 matches ≡ replaced content template 0 others
  pub changes : changes_of content template 0 0 matches ≡ changes_of content template 0 0 others
  pub lines : searched content template matches ≡ searched content template others

-- a template that names no group except the whole match needs only the spans
abbrev pub SpansAreEnough : Type 0
SpansAreEnough = (content template : List ℕ) (matches : List Groups)
    → names_explicit_groups template ≡ false
    → ReplaceAlike content template (map alone (map whole matches)) matches

-- a template needs only the groups up to the last one that it names
abbrev pub FirstGroupsAreEnough : Type 0
FirstGroupsAreEnough = (content template : List ℕ) (count : ℕ) (matches : List Groups)
    → NeedsGroups template count
    → ReplaceAlike content template (map (first_groups count) matches) matches
