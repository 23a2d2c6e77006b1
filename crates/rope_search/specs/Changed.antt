-- The rows of its report that a buffer reports as replaced, after a command.
use Rattle.std.specs.Prelude.{◌≡◌, ℕ, ◌≤◌, List, [], ◌∷◌, ◌++◌, Ok, Err, chars, slice_set}
use Rattle.rope_search_reports.specs.Text.{bytes_of}
use Rattle.rope_search_reports.specs.Replacement.{Groups, changes_of}
use Rattle.rope_search.specs.declared.stretches.Stretch.{Stretch}
use Rattle.rope_search.specs.Cost.{rows_anew}
use Rattle.rope_search.specs.Order.{Order, SetText, EditText, UndoEdit, RedoEdit, PrintText, ForkBuffer, SetPattern, DropPattern, ListMatches, FindNext, ReplaceAll, UseBuffer}
use Rattle.rope_search.specs.Replacing.{AreMatchesOfBuffer}
use Rattle.rope_search.specs.Session.{BufferState, State, chosen_buffer, current_text, IsReportIn}
use Rattle.rope_search.specs.Step.{Answer}
use Rattle.rope_search.specs.Stretches.{IsStretch, lines_spanned, none}

-- in the report before a call these rows are replaced by rows of the report after it; a report
-- without a pattern has no rows
abbrev pub Replaces : BufferState → BufferState → Stretch → Type 0
Replaces old new stretch = (rows rows' : List (List (ℕ × ℕ)))
    → IsReportIn old rows → IsReportIn new rows' → IsStretch rows rows' stretch

-- all matches are replaced by expansions of a template, and the number of added rows is at most the
-- number of lines from where the first of them starts to where the last ends
pub record SpansMatches (old : BufferState) (template : List ℕ) (new : BufferState)
    (stretch : Stretch) : Type 0 where
  pub matches : List Groups
  pub are : AreMatchesOfBuffer old matches
  pub few : stretch.added ≤ lines_spanned (bytes_of (current_text new))
      (changes_of (bytes_of (current_text old)) template 0 0 matches)

-- how many added rows a command may report: for an edit the number of lines of the inserted text,
-- and for a replacement that of the lines from its first match to its last
abbrev pub AddsFew : State → Order → State → Stretch → Type 0
AddsFew old (EditText from to payload) new stretch =
    stretch.added ≤ rows_anew (chosen_buffer old) (chars payload)
AddsFew old (ReplaceAll payload) new stretch =
    SpansMatches (chosen_buffer old) (chars payload) (chosen_buffer new) stretch
AddsFew old order new stretch = Unit {0}

-- the chosen buffer reports the rows that the command replaced, and the others report what they did
-- before
pub record TellsRows (old : State) (order : Order) (new : State)
    (told told' : List Stretch) : Type 0 where
  pub stretch : Stretch
  pub replaces : Replaces (chosen_buffer old) (chosen_buffer new) stretch
  pub few : AddsFew old order new stretch
  pub others : told' ≡ slice_set told old.chosen stretch

-- what the buffers report after an accepted command, from what they reported before
abbrev pub TellsStretches : State → Order → State → List Stretch → List Stretch → Type 0
TellsStretches old (SetText payload) new told told' = TellsRows old (SetText payload) new told told'
TellsStretches old (EditText from to payload) new told told' =
    TellsRows old (EditText from to payload) new told told'
TellsStretches old UndoEdit new told told' = TellsRows old UndoEdit new told told'
TellsStretches old RedoEdit new told told' = TellsRows old RedoEdit new told told'
TellsStretches old PrintText new told told' = told' ≡ told
-- the new buffer reports no row
TellsStretches old ForkBuffer new told told' = told' ≡ told ++ none ∷ []
TellsStretches old (SetPattern payload) new told told' =
    TellsRows old (SetPattern payload) new told told'
TellsStretches old DropPattern new told told' = TellsRows old DropPattern new told told'
TellsStretches old ListMatches new told told' = told' ≡ told
TellsStretches old (FindNext from) new told told' = told' ≡ told
TellsStretches old (ReplaceAll payload) new told told' =
    TellsRows old (ReplaceAll payload) new told told'
TellsStretches old (UseBuffer k) new told told' = told' ≡ told

-- after a refused one they report what they did before
abbrev pub TellsAfter : State → Order → Answer → State → List Stretch → List Stretch → Type 0
TellsAfter old order (Ok reply) new told told' = TellsStretches old order new told told'
TellsAfter old order (Err fault) new told told' = told' ≡ told
