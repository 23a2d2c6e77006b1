-- The ranges that a buffer returns as replaced in its text; and what a session's buffers keep of a
-- command, of a pending pattern too.
use Rattle.std.specs.Prelude.{◌≡◌, ℕ, ◌+◌, ◌≤◌, List, [], ◌∷◌, ◌++◌, map, None, Ok, Err, chars, slice_set}
use Rattle.str_indices.specs.Text.{byte_len}
use Rattle.rope_search_reports.specs.Text.{bytes_of}
use Rattle.rope_search_reports.specs.Ticks.{Ticks}
use Rattle.rope_search_reports.specs.Turned.{turned_changes}
use Rattle.rope_search.specs.Edits.{FullEdit, KeepsEdits}
use Rattle.rope_search.specs.Histories.{KeepsEdit, KeepsReplacement, changes_at, rows_back, rows_on}
use Rattle.rope_search.specs.Order.{Order, SetText, EditText, UndoEdit, RedoEdit, PrintText, ForkBuffer, SetPattern, DropPattern, ListMatches, FindNext, ReplaceAll, UseBuffer}
use Rattle.rope_search.specs.Pending.{KeepsPending}
use Rattle.rope_search.specs.Session.{LimitedBuffer, LimitedSession, chosen_buffer, chosen_in, current_text, fresh_buffer, redone, undone}
use Rattle.rope_search.specs.Step.{Answer}
use Rattle.rope_search.specs.Stretches.{lines_spanned}
use Rattle.rope_search.specs.TextChanges.{AreTextChanges, ranges_of, turned_range, whole_change}
use Rattle.rope_search.specs.UndoSteps.{changes_with_steps}

-- ---- a buffer

-- in these ranges its text was replaced
abbrev pub TellsText : LimitedBuffer → LimitedBuffer → Type 0
TellsText old new =
    AreTextChanges (current_text old.state) (current_text new.state) new.text_changes

-- all of it was
abbrev pub TellsAllText : LimitedBuffer → LimitedBuffer → Type 0
TellsAllText old new = new.text_changes
    ≡ ranges_of (whole_change (byte_len (current_text old.state))
    (byte_len (current_text new.state)) ∷ [])

-- the changes were made that lead from the text that was current to the next one: a range for each
abbrev pub TellsForward : LimitedBuffer → LimitedBuffer → Type 0
TellsForward old new =
    new.text_changes ≡ ranges_of (changes_at old.changes (old.state.current + 1))

-- those were undone that led to the text that was current
abbrev pub TellsBack : LimitedBuffer → LimitedBuffer → Type 0
TellsBack old new =
    new.text_changes ≡ map turned_range (ranges_of (changes_at old.changes old.state.current))

-- at most as many rows are added as there are lines from the start of the first change of what
-- comes back to the end of the last one
abbrev pub AddsBack : LimitedBuffer → LimitedBuffer → Type 0
AddsBack old new = new.changed.added ≤ lines_spanned (bytes_of (current_text (undone old.state)))
    (turned_changes 0 0 (changes_at old.changes old.state.current))

abbrev pub AddsOn : LimitedBuffer → LimitedBuffer → Type 0
AddsOn old new = new.changed.added ≤ lines_spanned (bytes_of (current_text (redone old.state)))
    (changes_at old.changes (old.state.current + 1))

-- ---- the chosen buffer of a session

-- what the chosen buffer keeps and returns of a command that replaces its text, or its pattern
abbrev pub KeepsOf : Order → LimitedBuffer → LimitedBuffer → Type 0
KeepsOf (SetText payload) old new =
    (new.changes ≡ [] ∷ []) × TellsText old new × TellsAllText old new × KeepsPending old new
KeepsOf (EditText from to payload) old new =
    KeepsEdit old from to (chars payload) new × TellsText old new × KeepsPending old new
KeepsOf UndoEdit old new = (new.changes ≡ old.changes) × TellsText old new × TellsBack old new
    × AddsBack old new × KeepsPending old new
KeepsOf RedoEdit old new = (new.changes ≡ old.changes) × TellsText old new × TellsForward old new
    × AddsOn old new × KeepsPending old new
KeepsOf (ReplaceAll payload) old new =
    KeepsReplacement old (chars payload) new × TellsText old new × KeepsPending old new
-- another pattern, or none: what was pending is dropped
KeepsOf order old new = (new.changes ≡ old.changes) × (new.text_changes ≡ old.text_changes)
    × (new.pending ≡ None)

-- A session's chosen buffer gives way to one of which this holds. Before and after, what it keeps is
-- kept beside the state that the session has.
pub record ChangesChosen (Keeps : LimitedBuffer → LimitedBuffer → Type 0)
    (old new : LimitedSession) : Type 0 where
  pub buffer : LimitedBuffer
  pub keeps : Keeps (chosen_in old) buffer
  pub was : (chosen_in old).state ≡ chosen_buffer old.state
  pub state : buffer.state ≡ chosen_buffer new.state
  pub is : chosen_in new ≡ buffer
  pub put : new.buffers ≡ slice_set old.buffers old.state.chosen buffer
  pub told : new.changed ≡ slice_set old.changed old.state.chosen buffer.changed

-- by several edits that are made as one
abbrev pub KeepsEditsOf : List FullEdit → LimitedBuffer → LimitedBuffer → Type 0
KeepsEditsOf edits old new =
    KeepsEdits old edits new × TellsText old new × KeepsPending old new

-- by dropping all but the last undo steps, of this number
abbrev pub KeepsSteps : ℕ → LimitedBuffer → LimitedBuffer → Type 0
KeepsSteps steps old new =
    (new.changes ≡ changes_with_steps old.changes old.state.current steps)
    × (new.text_changes ≡ old.text_changes) × (new.pending ≡ old.pending)

-- going back and forward makes at most as many rows as what comes back has lines
abbrev pub MakesFew : LimitedBuffer → Order → Ticks → Ticks → Type 0
MakesFew old UndoEdit ticks ticks' = ticks'.count ≤ ticks.count + rows_back old
MakesFew old RedoEdit ticks ticks' = ticks'.count ≤ ticks.count + rows_on old
MakesFew old order ticks ticks' = Unit {0}

-- ---- the buffers of a session after a command

-- after an accepted one
abbrev pub KeepsAccepted : LimitedSession → Order → LimitedSession → Type 0
KeepsAccepted old (SetText payload) new = ChangesChosen (KeepsOf (SetText payload)) old new
KeepsAccepted old (EditText from to payload) new =
    ChangesChosen (KeepsOf (EditText from to payload)) old new
KeepsAccepted old UndoEdit new = ChangesChosen (KeepsOf UndoEdit) old new
KeepsAccepted old RedoEdit new = ChangesChosen (KeepsOf RedoEdit) old new
KeepsAccepted old PrintText new = new.buffers ≡ old.buffers
-- a fork keeps nothing, and returns no ranges
KeepsAccepted old ForkBuffer new = new.buffers ≡ old.buffers
    ++ fresh_buffer (chosen_in old).limit (current_text (chosen_in old).state) ∷ []
KeepsAccepted old (SetPattern payload) new = ChangesChosen (KeepsOf (SetPattern payload)) old new
KeepsAccepted old DropPattern new = ChangesChosen (KeepsOf DropPattern) old new
KeepsAccepted old ListMatches new = new.buffers ≡ old.buffers
KeepsAccepted old (FindNext from) new = new.buffers ≡ old.buffers
KeepsAccepted old (ReplaceAll payload) new = ChangesChosen (KeepsOf (ReplaceAll payload)) old new
KeepsAccepted old (UseBuffer k) new = new.buffers ≡ old.buffers

-- and after a refused one what they did
abbrev pub KeepsAfter : LimitedSession → Order → Answer → LimitedSession → Type 0
KeepsAfter old order (Ok reply) new = KeepsAccepted old order new
KeepsAfter old order (Err fault) new = new.buffers ≡ old.buffers
