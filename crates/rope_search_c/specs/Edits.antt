-- Several edits as C passes them.
use Rattle.std.specs.Prelude.{◌≡◌, ℕ, ◌⊎◌, List, [], ◌∷◌, length, take, drop, sum_by, Result, OnOk, OnErr}
use Rattle.rope_search_io.specs.declared.faults.Fault.{Fault}
use Rattle.rope_search_reports.specs.Ticks.{MakesAtMost}
use Rattle.rope_search.specs.Session.{chosen_buffer, current_text}
use Rattle.rope_search.specs.Edits.{FullEdit, RefusesEdits, StepByEdits, TellsEdits, rows_of_edits}
use Rattle.rope_search.specs.TextsKept.{ChangesChosen, KeepsEditsOf}
use Rattle.rope_search_c.specs.Calls.{status_of}
use Rattle.rope_search_c.specs.declared.counting.CountingSession.{CountingSession}
use Rattle.rope_search_c.specs.declared.edits.TextEdit.{TextEdit}

-- the edits, each with its part of the bytes, in order
abbrev pub cut : List TextEdit → List ℕ → List FullEdit
cut [] bytes = []
cut (edit ∷ edits) bytes =
    record { from = edit.from; to = edit.to; payload = take edit.len bytes }
    ∷ cut edits (drop edit.len bytes)

-- the number of bytes is the sum of theirs
abbrev pub Fit : List TextEdit → List ℕ → Type 0
Fit edits bytes = sum_by (λ (edit : TextEdit). edit.len) edits ≡ length bytes

-- Edits lead from one session to another by a step with this answer, and make at most as many rows
-- as their texts have lines, and none if there is a reason to refuse them; the limit stays, and the
-- buffers report the replaced rows.
pub record CarriesEdits (old : CountingSession) (edits : List FullEdit)
    (answer : Result Unit Fault) (new : CountingSession) : Type 0 where
  pub step : StepByEdits old.session.limit old.session.state edits answer new.session.state
  pub limit : new.session.limit ≡ old.session.limit
  pub rows : MakesAtMost (rows_of_edits (chosen_buffer old.session.state) edits)
      old.lines new.lines
  pub unsearched : (fault : Fault)
      → RefusesEdits old.session.limit (current_text (chosen_buffer old.session.state)) edits
      fault
      → new.lines ≡ old.lines
  pub changed : OnOk answer (TellsEdits old.session.state edits new.session.state
      old.session.changed new.session.changed)
  pub kept : OnErr answer (new.session.changed ≡ old.session.changed)
  pub texts : OnOk answer (ChangesChosen (KeepsEditsOf edits) old.session new.session)
  pub still : OnErr answer (new.session.buffers ≡ old.session.buffers)

-- They do, if the number of bytes is the sum of theirs; otherwise they are refused with 2, like
-- edits that are nowhere, or with 7 if out of memory. The status is that of the answer, and the text
-- that arrives stays.
pub record MakesEdits (old : CountingSession) (edits : List TextEdit) (bytes : List ℕ)
    (status : ℕ) (new : CountingSession) : Type 0 where
  pub answer : Result Unit Fault
  pub told : status ≡ status_of answer
  pub fit : Fit edits bytes → CarriesEdits old (cut edits bytes) answer new
  pub unfit : (Fit edits bytes → ⊥) → ((status ≡ 2) ⊎ (status ≡ 7)) × (new ≡ old)
  pub arriving : new.arriving ≡ old.arriving
