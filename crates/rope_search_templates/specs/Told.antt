-- The expansions of a template for one match after the other, and their changes.
use Rattle.std.specs.Prelude.{◌≡◌, ℕ, ◌+◌, ◌-◌, true, List, [], ◌∷◌, ◌++◌, chars, string_bytes, vec_len, vec_capacity}
use Rattle.str_indices.specs.Text.{byte_len}
use Rattle.rope_search_changes.specs.Replacement.{Groups, whole, expand}
use Rattle.rope_search_changes.specs.declared.Change.{Change}
use Rattle.rope_search_templates.specs.declared.told.Told.{Told}

-- if the text is marked as the same at every match, it is
abbrev pub IsToldOf : List ℕ → Told → Type 0
IsToldOf template told = told.is_same ≡ true → (content : List ℕ) (groups : Groups)
    → chars (string_bytes told.text) ≡ expand content groups template

-- no match was read yet, and there is room for the changes of `count` matches
pub record IsToldOfNone (count : ℕ) (told : Told) : Type 0 where
  pub same : (template : List ℕ) → IsToldOf template told
  pub changes : told.changes.items ≡ []
  pub at : told.at ≡ 0
  pub at_new : told.at_new ≡ 0
  pub len : vec_len told.changes ≡ 0
  pub capacity : vec_capacity told.changes ≡ count

-- the change that a match makes after one that ends at these two offsets, of the old and the new
-- text
abbrev pub change_at : List ℕ → List ℕ → ℕ → ℕ → Groups → Change
change_at content template at at_new match =
    let start = at_new + ((whole match).0 - at) in
    let end = start + byte_len (expand content match template) in
    record { old_end = (whole match).1; new_start = start; new_end = end }

-- the next match was read, and this is its change
pub record IsToldNext (content template : List ℕ) (match : Groups) (old new : Told)
    (change : Change) : Type 0 where
  pub text : chars (string_bytes new.text) ≡ expand content match template
  pub same : IsToldOf template new
  pub change_is : change ≡ change_at content template old.at old.at_new match
  pub changes : new.changes.items ≡ old.changes.items ++ change ∷ []
  pub at : new.at ≡ change.old_end
  pub at_new : new.at_new ≡ change.new_end
  pub len : vec_len new.changes ≡ vec_len old.changes + 1
  pub capacity : vec_capacity new.changes ≡ vec_capacity old.changes
