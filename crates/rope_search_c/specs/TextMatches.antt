-- The first matches in the chosen buffer's whole text that start at a position or after it.
use Rattle.std.specs.Prelude.{◌≡◌, ℕ, List, Result}
use Rattle.rope_search_io.specs.declared.faults.Fault.{Fault}
use Rattle.rope_search_reports.specs.declared.positions.Position.{Position}
use Rattle.rope_search_reports.specs.Ticks.{SearchesOneWhole}
use Rattle.rope_search.specs.Session.{chosen_buffer}
use Rattle.rope_search.specs.TextMatches.{AnswersNextAll}
use Rattle.rope_search.specs.declared.text_matches.TextMatch.{TextMatch}
use Rattle.rope_search_c.specs.Calls.{status_of}
use Rattle.rope_search_c.specs.ListedEdits.{count_of}
use Rattle.rope_search_c.specs.declared.counting.CountingSession.{CountingSession}

-- The session's answer, as the status, the number and the list return it. At most one whole text
-- is searched, and the session is unchanged.
pub record CopiesTextMatches (old : CountingSession) (from : Position) (status count : ℕ)
    (out out' : List TextMatch) (new : CountingSession) : Type 0 where
  pub answer : Result ℕ Fault
  pub is : AnswersNextAll (chosen_buffer old.session.state) from answer out out'
  pub told : status ≡ status_of answer
  pub counted : count ≡ count_of answer
  pub session : new.session ≡ old.session
  pub arriving : new.arriving ≡ old.arriving
  pub searches : SearchesOneWhole old.lines new.lines
