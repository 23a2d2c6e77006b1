-- How many rows of a report a command may make, and how many whole texts it may search.
use Rattle.std.specs.Prelude.{◌≡◌, ℕ, ◌+◌, ◌≤◌, ◌⊎◌, List, if◌then◌else◌, is_some, Ok, chars}
use Rattle.rope_search_io.specs.declared.faults.Fault.{Fault}
use Rattle.rope_search.specs.declared.commands.Reply.{Reply}
use Rattle.rope_search_reports.specs.Text.{line_count}
use Rattle.rope_search_reports.specs.Ticks.{Ticks, NeverFall}
use Rattle.rope_search.specs.Order.{Order, SetText, EditText, UndoEdit, RedoEdit, PrintText, ForkBuffer, SetPattern, DropPattern, ListMatches, FindNext, ReplaceAll, UseBuffer}
use Rattle.rope_search.specs.Session.{BufferState, State, current_text, chosen_buffer}
use Rattle.rope_search.specs.Replacing.{RowsOfReplacement}
use Rattle.rope_search.specs.Step.{Refuses, Step}

-- a row for each line of a text that is searched; none without a pattern
abbrev pub rows_anew : BufferState → List ℕ → ℕ
rows_anew buffer text = if is_some buffer.pattern then line_count text else 0

-- the rows of the chosen buffer's report, which is computed again
abbrev pub rows_of_report : State → ℕ
rows_of_report session = rows_anew (chosen_buffer session) (current_text (chosen_buffer session))

-- an accepted command may make this number of rows; given are the sessions before and after it
abbrev pub RowsOf : State → Order → State → ℕ → Type 0
RowsOf old (SetText payload) new n = n ≡ rows_of_report new
-- the rows of the lines that the edit touches: the number of lines of the inserted text, which is
-- its number of breaks plus one
RowsOf old (EditText from to payload) new n = n ≡ rows_anew (chosen_buffer new) (chars payload)
RowsOf old UndoEdit new n = n ≡ rows_of_report new
RowsOf old RedoEdit new n = n ≡ rows_of_report new
RowsOf old PrintText new n = n ≡ 0
RowsOf old ForkBuffer new n = n ≡ 0
RowsOf old (SetPattern payload) new n = n ≡ rows_of_report new
RowsOf old DropPattern new n = n ≡ 0
RowsOf old ListMatches new n = n ≡ 0
RowsOf old (FindNext from) new n = n ≡ 0
-- the rows of the lines that the replacement touches: for each match the number of lines of its
-- expansion
RowsOf old (ReplaceAll payload) new n = RowsOfReplacement (chosen_buffer old) (chars payload) n
RowsOf old (UseBuffer k) new n = n ≡ 0

-- what a command costs if there is no reason to refuse it: this number of rows
pub record CostsAccepted (limit : ℕ) (old : State) (order : Order) (n : ℕ) : Type 0 where
  pub reply : Reply
  pub new : State
  pub step : Step limit old order (Ok reply) new
  pub rows : RowsOf old order new n

-- a command costs nothing if there is a reason to refuse it, otherwise what it costs once accepted,
-- whatever the answer
abbrev pub Costs : ℕ → State → Order → ℕ → Type 0
Costs limit old order n =
    ((fault : Fault) × Refuses limit old order fault × (n ≡ 0)) ⊎ CostsAccepted limit old order n

-- how many whole texts a command may search
abbrev pub whole_searches : Order → ℕ
whole_searches (SetText payload) = 0
whole_searches (EditText from to payload) = 0
whole_searches UndoEdit = 0
whole_searches RedoEdit = 0
whole_searches PrintText = 0
whole_searches ForkBuffer = 0
whole_searches (SetPattern payload) = 0
whole_searches DropPattern = 0
whole_searches ListMatches = 0
whole_searches (FindNext from) = 1
whole_searches (ReplaceAll payload) = 1
whole_searches (UseBuffer k) = 0

-- at most the rows of the command's cost were made, and whole texts searched at most as often as it
-- may; no count decreased
pub record SearchesFor (limit : ℕ) (session : State) (order : Order) (ticks ticks' : Ticks) : Type 0 where
  pub rows : (cost : ℕ) → Costs limit session order cost → ticks'.count ≤ ticks.count + cost
  pub wholes : ticks'.wholes ≤ ticks.wholes + whole_searches order
  pub never_fall : NeverFall ticks ticks'
