-- The groups of one match of a row, whose line is searched once more.
use Rattle.std.specs.Prelude.{◌≡◌, ℕ, ◌<◌, ◌≤◌, ◌⊎◌, List, Option, None, Some, Result, Ok, Err}
use Rattle.rope_search_io.specs.declared.faults.Fault.{Fault}
use Rattle.rope_search_io.specs.declared.faults.Fault.TheVariants.{Nothing, Range, Memory}
use Rattle.rope_search_reports.specs.Position.{line_text}
use Rattle.rope_search_reports.specs.Replacement.{Groups}
use Rattle.rope_search_reports.specs.LineGroups.{SearchesOneLine, TellsGroups}
use Rattle.rope_search_reports.specs.Text.{line_count}
use Rattle.rope_search_reports.specs.Ticks.{Ticks}
use Rattle.rope_search.specs.Session.{BufferState, current_text}

-- the text has this line, and this is the result for the pattern there: the groups of match
-- `number`, or none if there is no such match
pub record TellsGroupsIn (text pattern : List ℕ) (line number : ℕ) (told : Option Groups) : Type 0 where
  pub inside : line < line_count text
  pub tells : TellsGroups pattern (line_text text line) number told

-- the same for the buffer's pattern, in its current text
pub record TellsGroupsAt (buffer : BufferState) (line number : ℕ) (told : Option Groups) : Type 0 where
  pub pattern : List ℕ
  pub is_pattern : buffer.pattern ≡ Some pattern
  pub tells : TellsGroupsIn (current_text buffer) pattern line number told

-- the buffer's report has a row for this line
pub record HasRow (buffer : BufferState) (line : ℕ) : Type 0 where
  pub has_pattern : buffer.pattern ≡ None → ⊥
  pub inside : line < line_count (current_text buffer)

-- The answer: the groups; or why there are none, because there is no pattern, no such line, or no
-- such match in it; or that there was no memory for the search.
abbrev pub AnswersGroups : BufferState → ℕ → ℕ → Result Groups Fault → Type 0
AnswersGroups buffer line number (Ok groups) = TellsGroupsAt buffer line number (Some groups)
AnswersGroups buffer line number (Err Nothing) = buffer.pattern ≡ None
AnswersGroups buffer line number (Err Range) = (buffer.pattern ≡ None → ⊥)
    × ((line_count (current_text buffer) ≤ line) ⊎ TellsGroupsAt buffer line number None)
AnswersGroups buffer line number (Err Memory) = HasRow buffer line
AnswersGroups buffer line number (Err fault) = ⊥

-- what is searched for it, whatever the answer: the line if the report has its row, otherwise
-- nothing
pub record SearchesRow (buffer : BufferState) (line : ℕ) (old new : Ticks) : Type 0 where
  pub searched : HasRow buffer line → SearchesOneLine old new
  pub unsearched : (HasRow buffer line → ⊥) → new ≡ old
