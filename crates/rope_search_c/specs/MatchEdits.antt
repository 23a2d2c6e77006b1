-- The replacement of one match of a report.
use Rattle.std.specs.Prelude.{◌≡◌, ℕ, ◌+◌, ◌≤◌, List, None, IsUtf8, chars}
use Rattle.rope_search_reports.specs.Text.{bytes_of}
use Rattle.rope_search_reports.specs.declared.positions.Position.{Position}
use Rattle.rope_search.specs.Changed.{TellsAfter}
use Rattle.rope_search.specs.Cost.{Costs}
use Rattle.rope_search.specs.MatchEdits.{ListsNoMatch, ReplacesMatch, rows_for_groups}
use Rattle.rope_search.specs.Session.{chosen_buffer}
use Rattle.rope_search.specs.Step.{Answer, Step}
use Rattle.rope_search.specs.TextsKept.{KeepsAfter}
use Rattle.rope_search.specs.Order.{Order}
use Rattle.rope_search.specs.declared.commands.CommandOf.TheVariants.{Edit as EditText}
use Rattle.rope_search_c.specs.Calls.{status_of}
use Rattle.rope_search_c.specs.declared.counting.CountingSession.{CountingSession}

-- An edit that replaces a match leads from one session to another by a step, and the status is that
-- of its answer. Besides the row for the template's groups it makes at most the rows of its cost;
-- the limit stays, and the buffers report the replaced rows, and the replaced ranges of their
-- texts.
pub record CarriesMatch (old : CountingSession) (template : List ℕ) (order : Order) (status : ℕ)
    (new : CountingSession) : Type 0 where
  pub answer : Answer
  pub told : status ≡ status_of answer
  pub step : Step old.session.limit old.session.state order answer new.session.state
  pub limit : new.session.limit ≡ old.session.limit
  pub changed : TellsAfter old.session.state order answer new.session.state
      old.session.changed new.session.changed
  pub kept : KeepsAfter old.session order answer new.session
  pub rows : (cost : ℕ) → Costs old.session.limit old.session.state order cost
      → new.lines.count ≤ old.lines.count + rows_for_groups template + cost
  pub grows : old.lines.count ≤ new.lines.count
  pub wholes : new.lines.wholes ≡ old.lines.wholes

-- The session makes the edit that replaces match `number` in a line by the expansion of the
-- template; or there is no pattern, with status 1, or no such match, with status 2, or the template
-- isn't UTF-8, with status 3, and nothing changes. The text that arrives stays.
pub record ReplacesOne (old : CountingSession) (line number : ℕ) (template : List ℕ) (status : ℕ)
    (new : CountingSession) : Type 0 where
  pub edits : IsUtf8 template → (from to : Position) (inserted : List ℕ)
      → ReplacesMatch (chosen_buffer old.session.state) line number (chars template) from to inserted
      → CarriesMatch old (chars template) (EditText from to (bytes_of inserted)) status new
  pub none : (chosen_buffer old.session.state).pattern ≡ None → (status ≡ 1) × (new ≡ old)
  pub nowhere : ListsNoMatch (chosen_buffer old.session.state) line number
      → (status ≡ 2) × (new ≡ old)
  pub broken : ((chosen_buffer old.session.state).pattern ≡ None → ⊥)
      → (ListsNoMatch (chosen_buffer old.session.state) line number → ⊥)
      → ¬ (IsUtf8 template) → (status ≡ 3) × (new ≡ old)
  pub arriving : new.arriving ≡ old.arriving
