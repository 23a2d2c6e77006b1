-- Substitutions of parts of a text, with offsets in the text before any of them.
use Rattle.std.specs.Prelude.{ℕ, ◌+◌, ◌-◌, ◌≤◌, List, [], ◌∷◌, ◌++◌, drop, sum_by, chars, All, IsUtf8}
use Rattle.std.specs.Str.{IsCharBoundary}
use Rattle.str_indices.specs.Text.{byte_len}
use Rattle.rope_search_changes.specs.Text.{IsText, bytes_of, line_count}
use Rattle.rope_search_changes.specs.Changes.{AreChanges}
use Rattle.rope_search_changes.specs.Replacement.{between}
use Rattle.rope_search_changes.specs.declared.Change.{Change}
use Rattle.rope_search_templates.specs.declared.substitutions.Substitution.{Substitution as Given}

-- a text, and the offsets of the part that it replaces
pub record Substitution : Type 0 where
  pub start : ℕ
  pub end : ℕ
  pub text : List ℕ

-- a substitution whose text is given as UTF-8
abbrev pub told : Given → Substitution
told given = record { start = given.start; end = given.end; text = chars given.text.now }

-- each text is UTF-8
abbrev pub AreUtf8 : List Given → Type 0
AreUtf8 substitutions = All (λ (given : Given). IsUtf8 given.text.now) substitutions

-- the text from an offset on, with all substitutions
abbrev pub substituted : List ℕ → ℕ → List Substitution → List ℕ
substituted content at [] = chars (drop at content)
substituted content at (one ∷ others) =
    between content at one.start ++ one.text ++ substituted content one.end others

-- the parts are in order, from an offset on, and start and end at character boundaries; two may
-- touch
abbrev pub SubstitutionsFollow : List ℕ → ℕ → List Substitution → Type 0
SubstitutionsFollow content at [] = Unit {0}
SubstitutionsFollow content at (one ∷ others) =
    (at ≤ one.start) × (one.start ≤ one.end)
    × IsCharBoundary content one.start × IsCharBoundary content one.end
    × SubstitutionsFollow content one.end others

-- the changes of substitutions, from two offsets on
abbrev pub changes_by : ℕ → ℕ → List Substitution → List Change
changes_by at at_new [] = []
changes_by at at_new (one ∷ others) =
    let start = at_new + (one.start - at) in
    let end = start + byte_len one.text in
    record { old_end = one.end; new_start = start; new_end = end }
    ∷ changes_by one.end end others

-- the number of lines that may be searched for them: for each the lines of its text
abbrev pub lines_by : List Substitution → ℕ
lines_by substitutions = sum_by (λ (one : Substitution). line_count one.text) substitutions

-- Substitutions are changes: all text outside their parts stays, in order.
abbrev pub SubstitutionsAreChanges : Type 0
SubstitutionsAreChanges = (text : List ℕ) (substitutions : List Substitution) → IsText text
    → SubstitutionsFollow (bytes_of text) 0 substitutions
    → AreChanges (changes_by 0 0 substitutions) 0 0 text
    (substituted (bytes_of text) 0 substitutions) (lines_by substitutions)

-- They make a text.
abbrev pub SubstitutedIsText : Type 0
SubstitutedIsText = (text : List ℕ) (substitutions : List Substitution) → IsText text
    → SubstitutionsFollow (bytes_of text) 0 substitutions
    → All (λ (one : Substitution). IsText one.text) substitutions
    → IsText (substituted (bytes_of text) 0 substitutions)
