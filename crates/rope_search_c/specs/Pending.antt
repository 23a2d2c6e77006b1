-- The pending pattern of a session's chosen buffer, in the words of a session.
use Rattle.std.specs.Prelude.{◌≡◌, ◌⊎◌, ◌↔◌, ℕ, ◌-◌, List, take, drop, length, min, Bool, true, false, Option, None, Some, Result, Ok, Err, chars, IfOk, IfErr, IfSome, OnOk, OnErr, MatchOption}
use Rattle.rope_search_io.specs.declared.faults.Fault.{Fault}
use Rattle.rope_search_io.specs.declared.faults.Fault.TheVariants.{Nothing, Memory}
use Rattle.rope_search_reports.specs.Report.{AreRows, line_texts, match_count}
use Rattle.rope_search_reports.specs.Ticks.{MakesAsMany, MakesAtMost}
use Rattle.rope_search.specs.declared.commands.CommandOf.TheVariants.{Pattern as SetPattern}
use Rattle.rope_search.specs.Pending.{Advances, ArePendingRows, Begins, Cancels, StateAdvances, lines_left}
use Rattle.rope_search.specs.Session.{PendingPattern, chosen_in}
use Rattle.rope_search.specs.Step.{Accepts, IsFirstRefusal}
use Rattle.rope_search.specs.TextsKept.{ChangesChosen}
use Rattle.rope_search_c.specs.Calls.{status_of}
use Rattle.rope_search_c.specs.Reading.{rows_between, spans_from, text_in, with_front}
use Rattle.rope_search_c.specs.declared.counting.CountingSession.{CountingSession}
use Rattle.rope_search_c.specs.declared.matches.Span.{Span}

-- what is pending in the chosen buffer
abbrev pub pending_in : CountingSession → Option PendingPattern
pending_in session = (chosen_in session.session).pending

-- The pattern of these bytes is pending in the chosen buffer; or it is refused as the command for a
-- pattern refuses it, and nothing changes. Nothing is searched.
pub record BeginsPattern (old : CountingSession) (pattern : List ℕ) (status : ℕ)
    (new : CountingSession) : Type 0 where
  pub answer : Result Unit Fault
  pub told : status ≡ status_of answer
  pub begins : OnOk answer (ChangesChosen (Begins (chars pattern)) old.session new.session)
  pub accepted : OnOk answer (Accepts old.session.limit old.session.state (SetPattern pattern))
  pub refused : IfErr answer (λ fault. (fault ≡ Memory)
      ⊎ IsFirstRefusal old.session.limit old.session.state (SetPattern pattern) fault)
  pub state : new.session.state ≡ old.session.state
  pub limit : new.session.limit ≡ old.session.limit
  pub err : OnErr answer (new.session ≡ old.session)
  pub lines : new.lines ≡ old.lines
  pub arriving : new.arriving ≡ old.arriving

-- whether all lines are done; not where this is refused
abbrev pub is_done : Result Bool Fault → Bool
is_done (Ok done) = done
is_done (Err fault) = false

-- Up to this many further lines of the chosen buffer are done; or this is refused, and nothing
-- changes. A row is made for each line that is searched.
pub record AdvancesPending (old : CountingSession) (lines status : ℕ) (done : Bool)
    (new : CountingSession) : Type 0 where
  pub answer : Result Bool Fault
  pub told : status ≡ status_of answer
  pub done_is : done ≡ is_done answer
  pub advances : IfOk answer (λ all. ChangesChosen (Advances lines all) old.session new.session)
  pub state : IfOk answer (λ all.
      StateAdvances old.session.state (chosen_in old.session) all new.session.state)
  pub nothing : (answer ≡ Err Nothing) ↔ (pending_in old ≡ None)
  pub fault : IfErr answer (λ fault. (fault ≡ Nothing) ⊎ (fault ≡ Memory))
  pub limit : new.session.limit ≡ old.session.limit
  pub err : OnErr answer (new.session ≡ old.session)
  pub unsearched : answer ≡ Err Nothing → new.lines ≡ old.lines
  pub rows : MakesAtMost lines old.lines new.lines
  pub each : OnOk answer
      (MakesAsMany (min lines (lines_left (chosen_in old.session))) old.lines new.lines)
  pub arriving : new.arriving ≡ old.arriving

-- Nothing is pending, and all else is as before.
pub record CancelsPending (old : CountingSession) (status : ℕ) (new : CountingSession)
    : Type 0 where
  pub told : status ≡ 0
  pub cancels : ChangesChosen Cancels old.session new.session
  pub state : new.session.state ≡ old.session.state
  pub limit : new.session.limit ≡ old.session.limit
  pub lines : new.lines ≡ old.lines
  pub arriving : new.arriving ≡ old.arriving

-- how many lines are done, if a pattern is pending; else the number is as before
abbrev pub TellsPending : CountingSession → Bool → ℕ → ℕ → Type 0
TellsPending session found old new = MatchOption (pending_in session)
    ((found ≡ false) × (new ≡ old)) (λ pending. (found ≡ true) × (new ≡ pending.done))

-- the matches of these rows are at the buffer's front, as many as fit, and this many they are
pub record PutsRows (from : ℕ) (rows : List (List (ℕ × ℕ))) (count : ℕ) (old new : List Span)
    : Type 0 where
  pub counted : count ≡ match_count rows
  pub copied : new ≡ with_front (spans_from from rows) old

-- this is the number of matches in pending rows `from` up to `to`, with status 0; or nothing is
-- pending, with status 1
abbrev pub CountsPending : CountingSession → ℕ → ℕ → ℕ → ℕ → Type 0
CountsPending session from to status count = MatchOption (pending_in session)
    ((status ≡ 1) × (count ≡ 0))
    (λ pending. (rows : List (List (ℕ × ℕ))) × ArePendingRows (chosen_in session.session) rows
    × (status ≡ 0) × (count ≡ match_count (rows_between from to rows)))

-- their matches are at the buffer's front, as many as fit; or nothing is pending, and the buffer is
-- as it was
abbrev pub CopiesPending : CountingSession → ℕ → ℕ → ℕ → ℕ → List Span → List Span → Type 0
CopiesPending session from to status count old new = MatchOption (pending_in session)
    ((status ≡ 1) × (count ≡ 0) × (new ≡ old))
    (λ pending. (rows : List (List (ℕ × ℕ))) × ArePendingRows (chosen_in session.session) rows
    × (status ≡ 0) × PutsRows from (rows_between from to rows) count old new)

-- the matches of lines `from` up to `to` for the pending pattern are at the buffer's front
abbrev pub PutsWindow : CountingSession → ℕ → ℕ → ℕ → List Span → List Span → Type 0
PutsWindow session from to count old new = IfSome (pending_in session) (λ pending.
    (rows : List (List (ℕ × ℕ)))
    × AreRows pending.pattern (take (to - from) (drop from (line_texts (text_in session)))) rows
    × PutsRows from rows count old new)

-- So they are, with status 0; or nothing is pending, with status 1, or memory was refused, with
-- status 7, and the buffer is as it was. The session is the same, and a row is made for each line
-- that is not done.
pub record CopiesWindow (old : CountingSession) (from to status count : ℕ) (out out' : List Span)
    (new : CountingSession) : Type 0 where
  pub shown : status ≡ 0 → PutsWindow old from to count out out'
  pub refused : (status ≡ 0 → ⊥) → (count ≡ 0) × (out' ≡ out)
  pub nothing : (status ≡ 1) ↔ (pending_in old ≡ None)
  pub status_is : (status ≡ 0) ⊎ ((status ≡ 1) ⊎ (status ≡ 7))
  pub same : new.session ≡ old.session
  pub unsearched : status ≡ 1 → new.lines ≡ old.lines
  pub rows : MakesAtMost (min (to - from) (lines_left (chosen_in old.session)))
      old.lines new.lines
  pub arriving : new.arriving ≡ old.arriving
