-- The groups of a match in a line.
use Rattle.std.specs.Prelude.{◌≡◌, ℕ, List, map, true, false, Option, None, Some, Result, Ok, Err}
use Rattle.rope_search_io.specs.declared.faults.Fault.{Fault}
use Rattle.rope_search_reports.specs.Replacement.{Groups}
use Rattle.rope_search.specs.GroupsAt.{AnswersGroups, SearchesRow}
use Rattle.rope_search.specs.Session.{chosen_buffer}
use Rattle.rope_search_c.specs.Calls.{status_of}
use Rattle.rope_search_c.specs.Reading.{with_front}
use Rattle.rope_search_c.specs.declared.counting.CountingSession.{CountingSession}
use Rattle.rope_search_c.specs.declared.matches.Group.{Group}

-- a group, by its columns, of a match in this line
abbrev pub group_in : ℕ → Option (ℕ × ℕ) → Group
group_in line None = record { found = false; line = line; start = 0; stop = 0 }
group_in line (Some columns) =
    record { found = true; line = line; start = columns.0; stop = columns.1 }

-- they are at the buffer's start, as many as fit; if they are refused the buffer is unchanged
abbrev pub PutsGroups : ℕ → Result Groups Fault → List Group → List Group → Type 0
PutsGroups line (Ok groups) old new = new ≡ with_front (map (group_in line) groups) old
PutsGroups line (Err fault) old new = new ≡ old

-- The session's answer to a request for the groups of a match, given by its line and its number in
-- that row, as the status and the buffer return it. That row is searched, and the session is
-- unchanged.
pub record CopiesGroups (old : CountingSession) (line number status : ℕ)
    (out out' : List Group) (new : CountingSession) : Type 0 where
  pub answer : Result Groups Fault
  pub is : AnswersGroups (chosen_buffer old.session.state) line number answer
  pub told : status ≡ status_of answer
  pub put : PutsGroups line answer out out'
  pub session : new.session ≡ old.session
  pub arriving : new.arriving ≡ old.arriving
  pub searches : SearchesRow (chosen_buffer old.session.state) line old.lines new.lines
