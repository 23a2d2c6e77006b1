-- The effect of a call for a command, by a session's commands.
use Rattle.std.specs.Prelude.{◌≡◌, ℕ, Result, Ok, Err, true, false, Option, None, MatchOption}
use Rattle.rope_search_io.specs.Faults.{rank_of}
use Rattle.rope_search_io.specs.declared.faults.Fault.{Fault}
use Rattle.rope_search.specs.declared.commands.Reply.TheVariants.{Number, Found}
use Rattle.rope_search.specs.Order.{Order}
use Rattle.rope_search.specs.Session.{current_text, chosen_buffer, chosen_in, with_text, with_chosen}
use Rattle.rope_search.specs.Step.{Answer, Step}
use Rattle.rope_search.specs.Changed.{TellsAfter}
use Rattle.rope_search.specs.Cost.{SearchesFor}
use Rattle.rope_search.specs.TextsKept.{ChangesChosen, KeepsAfter, KeepsSteps, MakesFew}
use Rattle.rope_search_c.specs.declared.counting.CountingSession.{CountingSession}
use Rattle.rope_search_c.specs.declared.matches.Match.{Match}

-- 0 if the call succeeds, otherwise the rank of the fault
abbrev pub status_of : {T : Type 0} → Result T Fault → ℕ
status_of (Ok done) = 0
status_of (Err fault) = rank_of fault

-- the number in a command's reply, otherwise 0
abbrev pub number_of : Answer → ℕ
number_of (Ok (Number number)) = number
number_of answer = 0

-- the match in a reply: where it starts and where it ends; otherwise that there is none
abbrev pub TellsFound : Answer → Match → Type 0
TellsFound (Ok (Found start end)) told = (told.found ≡ true) × (told.start ≡ start)
    × (told.stop ≡ end)
TellsFound answer told = told.found ≡ false

-- the command leads from one session to another by a step with this answer, and makes at most the
-- rows, and searches at most the whole texts, of its cost; undo and redo make at most as many rows
-- as the text that comes back has lines; the limit and the text that arrives stay, and the buffers
-- report the replaced rows, and the replaced ranges of their texts
pub record Carries (old : CountingSession) (order : Order) (answer : Answer)
    (new : CountingSession) : Type 0 where
  pub step : Step old.session.limit old.session.state order answer new.session.state
  pub limit : new.session.limit ≡ old.session.limit
  pub searches : SearchesFor old.session.limit old.session.state order old.lines new.lines
  pub changed : TellsAfter old.session.state order answer new.session.state
      old.session.changed new.session.changed
  pub kept : KeepsAfter old.session order answer new.session
  pub few : MakesFew (chosen_in old.session) order old.lines new.lines
  pub arriving : new.arriving ≡ old.arriving

-- it does, and the status is that of the answer
pub record DoesOrder (old : CountingSession) (order : Order) (status : ℕ)
    (new : CountingSession) : Type 0 where
  pub answer : Answer
  pub carries : Carries old order answer new
  pub told : status ≡ status_of answer

-- it does, and the number is returned too
pub record DoesAndCounts (old : CountingSession) (order : Order) (status number : ℕ)
    (new : CountingSession) : Type 0 where
  pub answer : Answer
  pub carries : Carries old order answer new
  pub told : status ≡ status_of answer
  pub numbered : number ≡ number_of answer

-- it does, and the match is returned too
pub record DoesAndFinds (old : CountingSession) (order : Order) (status : ℕ) (match : Match)
    (new : CountingSession) : Type 0 where
  pub answer : Answer
  pub carries : Carries old order answer new
  pub told : status ≡ status_of answer
  pub tells : TellsFound answer match

-- a call on a handle with a session replaces it by another, as P has it; on a closed handle it
-- returns 8, and the handle stays closed
abbrev pub LeadsHandle : Option CountingSession → ℕ → Option CountingSession
    → (CountingSession → CountingSession → Type 0) → Type 0
LeadsHandle old status new P =
    MatchOption old ((status ≡ 8) × (new ≡ None)) (λ before. MatchOption new ⊥ (λ after. P before after))

-- the chosen buffer's history is dropped: only the current one of its texts is left; its pattern,
-- the other buffers, the limit, the rows that the buffers report as replaced, the counts, and the
-- text that arrives stay
pub record Forgets (old : CountingSession) (status : ℕ) (new : CountingSession) : Type 0 where
  pub state : new.session.state ≡ with_chosen old.session.state
      (with_text (chosen_buffer old.session.state) (current_text (chosen_buffer old.session.state)))
  pub limit : new.session.limit ≡ old.session.limit
  pub changed : new.session.changed ≡ old.session.changed
  pub kept : ChangesChosen (KeepsSteps 0) old.session new.session
  pub lines : new.lines ≡ old.lines
  pub arriving : new.arriving ≡ old.arriving
  pub told : status ≡ 0
