-- The replacement of listed matches, in the words of a session.
use Rattle.std.specs.Prelude.{◌≡◌, ℕ, ◌+◌, ◌≤◌, ◌⊎◌, List, Result, Ok, Err, None, IsUtf8, OnOk, OnErr, chars}
use Rattle.rope_search_io.specs.declared.faults.Fault.{Fault}
use Rattle.rope_search.specs.ListedReplacing.{KeepsListedOf, RowsOfListed, StepByListed, TellsListed}
use Rattle.rope_search.specs.Session.{chosen_buffer}
use Rattle.rope_search.specs.TextsKept.{ChangesChosen}
use Rattle.rope_search_c.specs.Calls.{status_of}
use Rattle.rope_search_c.specs.declared.counting.CountingSession.{CountingSession}

-- the number of the matches that were replaced, else 0
abbrev pub count_of : Result ℕ Fault → ℕ
count_of (Ok count) = count
count_of (Err fault) = 0

-- The matches that are listed in the lines from one up to another are replaced by a step, which is
-- answered so, and the status and the number are those of the answer. It makes no more rows than are
-- counted for groups and for the expansions; the limit and the text that arrives stay, and the
-- buffers report which rows, and which ranges of their texts, were replaced.
pub record ReplacesListed (old : CountingSession) (from to : ℕ) (template : List ℕ)
    (status count : ℕ) (new : CountingSession) : Type 0 where
  pub answer : Result ℕ Fault
  pub told : status ≡ status_of answer
  pub counted : count ≡ count_of answer
  pub step : StepByListed old.session.limit old.session.state from to template answer
      new.session.state
  pub limit : new.session.limit ≡ old.session.limit
  pub changed : OnOk answer (TellsListed old.session.state from to (chars template)
      new.session.state old.session.changed new.session.changed)
  pub texts : OnOk answer (ChangesChosen (KeepsListedOf from to (chars template))
      old.session new.session)
  pub refused : OnErr answer (new.session ≡ old.session)
  pub unsearched : ((chosen_buffer old.session.state).pattern ≡ None) ⊎ (¬ (IsUtf8 template))
      → new.lines ≡ old.lines
  pub rows : (n : ℕ)
      → RowsOfListed (chosen_buffer old.session.state) from to (chars template) n
      → new.lines.count ≤ old.lines.count + n
  pub grows : old.lines.count ≤ new.lines.count
  pub wholes : new.lines.wholes ≡ old.lines.wholes
  pub arriving : new.arriving ≡ old.arriving
