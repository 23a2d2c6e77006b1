-- The undo steps of a session's chosen buffer, and the replaced ranges of its text.
use Rattle.std.specs.Prelude.{◌≡◌, ℕ, ◌<◌, ◌≤◌, ◌↔◌, ◌⊎◌, List, length, Result, Err, IfErr, OnOk, OnErr}
use Rattle.rope_search_io.specs.declared.faults.Fault.{Fault}
use Rattle.rope_search_io.specs.declared.faults.Fault.TheVariants.{Memory, Nothing}
use Rattle.rope_search.specs.Session.{chosen_buffer, chosen_in, with_chosen}
use Rattle.rope_search.specs.TextsKept.{ChangesChosen, KeepsSteps}
use Rattle.rope_search.specs.JoinedSteps.{KeepsJoined, with_joined}
use Rattle.rope_search.specs.UndoSteps.{undo_count, with_steps}
use Rattle.rope_search.specs.declared.text_changes.TextChange.{TextChange}
use Rattle.rope_search_c.specs.Calls.{status_of}
use Rattle.rope_search_c.specs.Reading.{with_front}
use Rattle.rope_search_c.specs.declared.counting.CountingSession.{CountingSession}

-- of the chosen buffer's texts at most `steps` before the current one are left, and none after it;
-- its pattern, the other buffers, the limit, what the buffers report, and the counts stay
pub record KeepsLast (old : CountingSession) (steps status : ℕ)
    (new : CountingSession) : Type 0 where
  pub state : new.session.state ≡ with_chosen old.session.state
      (with_steps (chosen_buffer old.session.state) steps)
  pub limit : new.session.limit ≡ old.session.limit
  pub changed : new.session.changed ≡ old.session.changed
  pub kept : ChangesChosen (KeepsSteps steps) old.session new.session
  pub lines : new.lines ≡ old.lines
  pub arriving : new.arriving ≡ old.arriving
  pub told : status ≡ 0

-- the chosen buffer's last steps are joined into one, if there are that many, otherwise nothing
-- changes; the other buffers, the limit, what the buffers report, and the counts stay
pub record JoinsLast (old : CountingSession) (steps status : ℕ)
    (new : CountingSession) : Type 0 where
  pub answer : Result Unit Fault
  pub state : OnOk answer (new.session.state ≡ with_chosen old.session.state
      (with_joined (chosen_buffer old.session.state) steps))
  pub kept : OnOk answer (ChangesChosen (KeepsJoined steps) old.session new.session)
  pub limit : new.session.limit ≡ old.session.limit
  pub changed : new.session.changed ≡ old.session.changed
  pub lines : new.lines ≡ old.lines
  pub arriving : new.arriving ≡ old.arriving
  pub nothing : (answer ≡ Err Nothing) ↔ (undo_count (chosen_buffer old.session.state) < steps)
  pub memory : answer ≡ Err Memory → 2 ≤ steps
  pub fault : IfErr answer (λ fault. (fault ≡ Nothing) ⊎ (fault ≡ Memory))
  pub err : OnErr answer (new.session ≡ old.session)
  pub told : status ≡ status_of answer

-- the ranges that the chosen buffer reports are at the start, as many as fit, and this is their
-- number; they are stored beside the session's state
pub record CopiesRanges (session : CountingSession) (count : ℕ)
    (out out' : List TextChange) : Type 0 where
  pub state : (chosen_in session.session).state ≡ chosen_buffer session.session.state
  pub counted : count ≡ length (chosen_in session.session).text_changes
  pub copied : out' ≡ with_front (chosen_in session.session).text_changes out
