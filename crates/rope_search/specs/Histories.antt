-- The texts of a buffer, and the changes from each one to the next.
use Rattle.std.specs.Prelude.{◌≡◌, ℕ, ◌+◌, ◌<◌, List, [], ◌∷◌, ◌++◌, length, take, slice_index_or, Bool, true, false, Option, None, Some}
use Rattle.str_indices.specs.Text.{byte_len}
use Rattle.rope_search_reports.specs.Text.{bytes_of}
use Rattle.rope_search_reports.specs.Matches.{AreGroups}
use Rattle.rope_search_reports.specs.Replacement.{Groups, changes_of}
use Rattle.rope_search_reports.specs.Turned.{Lead, turned_changes, lines_put}
use Rattle.rope_search_changes.specs.declared.Change.{Change}
use Rattle.rope_search_reports.specs.declared.positions.Position.{Position}
use Rattle.rope_search.specs.Session.{LimitedBuffer, current_text, undone, redone}
use Rattle.rope_search.specs.Places.{IsBetween}
use Rattle.rope_search.specs.Replacing.{AreMatchesOfBuffer}
use Rattle.rope_search.specs.TextChanges.{ranges_of}

-- texts, from the oldest on, with the changes that led to each from the one before it, none for the
-- first text; the number of the current text; and the changes that were made last, or undone
pub record Texts : Type 0 where
  pub texts : List (List ℕ)
  pub changes : List (List Change)
  pub current : ℕ
  pub is_back : Bool
  pub last : List Change

-- one of the texts, and the changes that led to it
abbrev pub text_at : List (List ℕ) → ℕ → List ℕ
text_at texts number = slice_index_or texts number []

abbrev pub changes_at : List (List Change) → ℕ → List Change
changes_at changes number = slice_index_or changes number []

-- the changes lead from each text to the next
abbrev pub LeadOn : List (List ℕ) → List (List Change) → Type 0
LeadOn texts changes = (number : ℕ) → number + 1 < length texts
    → Lead (changes_at changes (number + 1)) (text_at texts number) (text_at texts (number + 1))

-- the changes that were made last, or undone: those that are kept apart, or those that led to the
-- current text, or to the one after it
abbrev pub changes_last : Option (List Change) → Bool → List (List Change) → ℕ → List Change
changes_last (Some apart) is_back changes current = apart
changes_last None false changes current = changes_at changes current
changes_last None true changes current = changes_at changes (current + 1)

-- the changes lead from some text to another
abbrev pub LeadSomewhere : List Change → Type 0
LeadSomewhere changes = (old : List ℕ) × (new : List ℕ) × Lead changes old new

-- ---- what is kept of a buffer's history

-- the changes up to the current text, and further ones replacing those after it
abbrev pub with_changes : LimitedBuffer → List Change → List (List Change)
with_changes buffer changes = take (buffer.state.current + 1) buffer.changes ++ changes ∷ []

-- the change of a part after a text, to one that replaces it
abbrev pub change_behind : List ℕ → List ℕ → List ℕ → Change
change_behind before part inserted = record {
  old_end = byte_len before + byte_len part;
  new_start = byte_len before;
  new_end = byte_len before + byte_len inserted;
}

-- an edit is one change, and one range: of the part between the positions, to the text that
-- replaced it
pub record KeepsEdit (old : LimitedBuffer) (from to : Position) (inserted : List ℕ)
    (new : LimitedBuffer) : Type 0 where
  pub before : List ℕ
  pub part : List ℕ
  pub behind : List ℕ
  pub between : IsBetween (current_text old.state) from to before part behind
  pub kept : new.changes ≡ with_changes old (change_behind before part inserted ∷ [])
  pub ranges : new.text_changes ≡ ranges_of (change_behind before part inserted ∷ [])

-- a replacement is a change for each match, and a range for each
pub record KeepsReplacement (old : LimitedBuffer) (template : List ℕ)
    (new : LimitedBuffer) : Type 0 where
  pub matches : List Groups
  pub are : AreMatchesOfBuffer old.state matches
  pub kept : new.changes ≡ with_changes old
      (changes_of (bytes_of (current_text old.state)) template 0 0 matches)
  pub ranges : new.text_changes
      ≡ ranges_of (changes_of (bytes_of (current_text old.state)) template 0 0 matches)

-- these are the changes of a replacement in a text, for a pattern
pub record AreReplacements (text pattern template : List ℕ) (changes : List Change) : Type 0 where
  pub matches : List Groups
  pub are : AreGroups pattern (bytes_of text) matches
  pub told : changes ≡ changes_of (bytes_of text) template 0 0 matches

-- ---- how many rows undo and redo may make

-- the number of lines of what comes back: for each change its breaks plus one
abbrev pub rows_back : LimitedBuffer → ℕ
rows_back buffer = lines_put (bytes_of (current_text (undone buffer.state)))
    (turned_changes 0 0 (changes_at buffer.changes buffer.state.current))

abbrev pub rows_on : LimitedBuffer → ℕ
rows_on buffer = lines_put (bytes_of (current_text (redone buffer.state)))
    (changes_at buffer.changes (buffer.state.current + 1))
