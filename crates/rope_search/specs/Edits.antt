-- Several edits of a buffer as one: the positions of each are those of the text before any of them.
use Rattle.std.specs.Prelude.{◌≡◌, ℕ, ◌<◌, ◌≤◌, List, [], ◌∷◌, if◌then◌else◌, is_some, sum_by, Result, Ok, Err, All, IsUtf8, chars, slice_set}
use Rattle.str_indices.specs.Text.{byte_len}
use Rattle.rope_search_io.specs.declared.faults.Fault.{Fault}
use Rattle.rope_search_io.specs.declared.faults.Fault.TheVariants.{Range, Utf8, Size, Memory}
use Rattle.rope_search_io.specs.Faults.{rank_of}
use Rattle.rope_search_reports.specs.Text.{bytes_of, line_count}
use Rattle.rope_search_reports.specs.Position.{IsAt}
use Rattle.rope_search_reports.specs.declared.positions.Position.{Position}
use Rattle.rope_search_changes.specs.declared.Change.{Change}
use Rattle.rope_search_templates.specs.Substitutions.{Substitution, substituted, changes_by}
use Rattle.rope_search.specs.declared.edits.Edit.{Edit}
use Rattle.rope_search.specs.declared.stretches.Stretch.{Stretch}
use Rattle.rope_search.specs.Session.{BufferState, State, LimitedBuffer, current_text, chosen_buffer, with_edit, with_chosen}
use Rattle.rope_search.specs.Histories.{with_changes}
use Rattle.rope_search.specs.TextChanges.{ranges_of}
use Rattle.rope_search.specs.Changed.{Replaces}
use Rattle.rope_search.specs.Stretches.{lines_spanned}

-- an edit with its payload: these bytes replace the text from one position to another
pub record FullEdit : Type 0 where
  pub from : Position
  pub to : Position
  pub payload : List ℕ

abbrev pub in_full : Edit → FullEdit
in_full edit = record { from = edit.from; to = edit.to; payload = edit.text.now }

abbrev pub PayloadsAreUtf8 : List FullEdit → Type 0
PayloadsAreUtf8 edits = All (λ (edit : FullEdit). IsUtf8 edit.payload) edits

-- An edit is at an offset or after it: its positions are at these two offsets, and the second is
-- not before the first.
pub record LiesBehind (text : List ℕ) (at : ℕ) (edit : FullEdit) (start end : ℕ) : Type 0 where
  pub behind : at ≤ start
  pub ordered : start ≤ end
  pub starts : IsAt text (edit.from.line, edit.from.column) start
  pub ends : IsAt text (edit.to.line, edit.to.column) end

-- The edits follow each other from an offset on, and two may touch; each inserts its text between
-- these offsets.
abbrev pub LieInOrder : List ℕ → ℕ → List FullEdit → List Substitution → Type 0
LieInOrder text at [] [] = Unit {0}
LieInOrder text at (edit ∷ edits) (one ∷ others) =
    LiesBehind text at edit one.start one.end × (one.text ≡ chars edit.payload)
    × LieInOrder text one.end edits others
LieInOrder text at edits substitutions = ⊥

-- ---- their result

-- the text that they make of a text, each by one change
pub record MakeOf (text : List ℕ) (edits : List FullEdit) (new : List ℕ)
    (changes : List Change) : Type 0 where
  pub substitutions : List Substitution
  pub lie : LieInOrder text 0 edits substitutions
  pub utf8 : PayloadsAreUtf8 edits
  pub text_is : new ≡ substituted (bytes_of text) 0 substitutions
  pub changes_are : changes ≡ changes_by 0 0 substitutions

-- all are made; the buffer with this text is the new one, also if there is no edit
pub record AreEdits (old : BufferState) (edits : List FullEdit) (new : BufferState) : Type 0 where
  pub text : List ℕ
  pub changes : List Change
  pub make : MakeOf (current_text old) edits text changes
  pub changed : new ≡ with_edit old text

-- the changes are kept with the text, and a range is reported for each
pub record KeepsEdits (old : LimitedBuffer) (edits : List FullEdit)
    (new : LimitedBuffer) : Type 0 where
  pub text : List ℕ
  pub changes : List Change
  pub make : MakeOf (current_text old.state) edits text changes
  pub kept : new.changes ≡ with_changes old changes
  pub ranges : new.text_changes ≡ ranges_of changes

-- the number of added rows is at most the number of lines from where the first of them starts to
-- where the last ends
pub record SpansEdits (old : BufferState) (edits : List FullEdit) (new : BufferState)
    (stretch : Stretch) : Type 0 where
  pub changes : List Change
  pub make : MakeOf (current_text old) edits (current_text new) changes
  pub few : stretch.added ≤ lines_spanned (bytes_of (current_text new)) changes

-- how many rows they may make: for each the number of lines of its text; none without a pattern
abbrev pub lines_of_edits : List FullEdit → ℕ
lines_of_edits edits = sum_by (λ (edit : FullEdit). line_count (chars edit.payload)) edits

abbrev pub rows_of_edits : BufferState → List FullEdit → ℕ
rows_of_edits buffer edits = if is_some buffer.pattern then lines_of_edits edits else 0

-- ---- their answer

-- the edited text would have more bytes than the limit
pub record GetTooLong (limit : ℕ) (text : List ℕ) (edits : List FullEdit) : Type 0 where
  pub substitutions : List Substitution
  pub lie : LieInOrder text 0 edits substitutions
  pub long : limit < byte_len (substituted (bytes_of text) 0 substitutions)

-- a reason to refuse all of them, under a limit on the bytes of a text: a position is nowhere, the
-- second of an edit is before its first, or an edit isn't after the one before it; a payload isn't
-- UTF-8; or the new text would have too many bytes
abbrev pub RefusesEdits : ℕ → List ℕ → List FullEdit → Fault → Type 0
RefusesEdits limit text edits Range =
    (substitutions : List Substitution) → LieInOrder text 0 edits substitutions → ⊥
RefusesEdits limit text edits Utf8 = ¬ (PayloadsAreUtf8 edits)
RefusesEdits limit text edits Size = GetTooLong limit text edits
RefusesEdits limit text edits fault = ⊥

-- the first of all reasons to refuse them
pub record IsFirstAgainst (limit : ℕ) (text : List ℕ) (edits : List FullEdit)
    (fault : Fault) : Type 0 where
  pub refuses : RefusesEdits limit text edits fault
  pub none_before : (other : Fault) → rank_of other < rank_of fault
      → RefusesEdits limit text edits other → ⊥

-- there is none
abbrev pub AcceptsEdits : ℕ → List ℕ → List FullEdit → Type 0
AcceptsEdits limit text edits = (fault : Fault) → RefusesEdits limit text edits fault → ⊥

-- under this limit edits of the chosen buffer may have this answer, and leave this session: all are
-- made, or none. Out of memory may replace any other answer.
abbrev pub StepByEdits : ℕ → State → List FullEdit → Result Unit Fault → State → Type 0
StepByEdits limit old edits (Ok done) new =
    AcceptsEdits limit (current_text (chosen_buffer old)) edits
    × ((edited : BufferState) × AreEdits (chosen_buffer old) edits edited
    × (new ≡ with_chosen old edited))
StepByEdits limit old edits (Err Memory) new = new ≡ old
StepByEdits limit old edits (Err fault) new =
    IsFirstAgainst limit (current_text (chosen_buffer old)) edits fault × (new ≡ old)

-- the chosen buffer reports the rows that they replaced, and the others report what they did before
pub record TellsEdits (old : State) (edits : List FullEdit) (new : State)
    (told told' : List Stretch) : Type 0 where
  pub stretch : Stretch
  pub replaces : Replaces (chosen_buffer old) (chosen_buffer new) stretch
  pub few : SpansEdits (chosen_buffer old) edits (chosen_buffer new) stretch
  pub others : told' ≡ slice_set told old.chosen stretch
