-- A text that arrives in parts, in the words of a session.
use Rattle.std.specs.Prelude.{◌≡◌, ◌↔◌, ℕ, List, [], ◌++◌, Option, None, IfSome, MatchOption}
use Rattle.rope_search_texts.specs.Arriving.{ArrivesWithin, refusal_so_far}
use Rattle.rope_search.specs.declared.commands.CommandOf.TheVariants.{Text as SetText}
use Rattle.rope_search_c.specs.Calls.{DoesOrder, status_of}
use Rattle.rope_search_c.specs.declared.counting.CountingSession.{CountingSession}

-- a text arrives, and these are its bytes so far, of which is kept what the session's limit allows
abbrev pub HasArrived : CountingSession → List ℕ → Type 0
HasArrived session bytes =
    MatchOption session.arriving ⊥ (λ text. ArrivesWithin session.session.limit text bytes)

-- A text arrives of which there are no bytes yet, and all else is as before.
pub record StartsText (old : CountingSession) (status : ℕ) (new : CountingSession)
    : Type 0 where
  pub told : status ≡ 0
  pub arriving : HasArrived new []
  pub session : new.session ≡ old.session
  pub lines : new.lines ≡ old.lines

-- The bytes follow those that arrived before, and the status is a reason to refuse the text, if one
-- is known, else 0; or none arrives, and the status is 1. All else is as before.
pub record AppendsPart (old : CountingSession) (part : List ℕ) (status : ℕ) (new : CountingSession)
    : Type 0 where
  pub arriving : (bytes : List ℕ) → HasArrived old bytes → HasArrived new (bytes ++ part)
  pub told : IfSome new.arriving (λ text. status ≡ status_of (refusal_so_far text))
  pub none : (old.arriving ≡ None) ↔ (new.arriving ≡ None)
  pub nothing : old.arriving ≡ None → status ≡ 1
  pub session : new.session ≡ old.session
  pub lines : new.lines ≡ old.lines

-- the session to which no text arrives
abbrev pub with_none_arriving : CountingSession → CountingSession
with_none_arriving session = record session { arriving = None }

-- The session, to which then no text arrives, executes the command that sets the text to the bytes
-- that arrived; or none arrives, the status is 1, and nothing changes.
abbrev pub EndsText : CountingSession → ℕ → CountingSession → Type 0
EndsText old status new = MatchOption old.arriving ((status ≡ 1) × (new ≡ old)) (λ text.
    (bytes : List ℕ) → ArrivesWithin old.session.limit text bytes
    → DoesOrder (with_none_arriving old) (SetText bytes) status new)

-- No text arrives, and all else is as before.
pub record CancelsText (old : CountingSession) (status : ℕ) (new : CountingSession)
    : Type 0 where
  pub told : status ≡ 0
  pub is : new ≡ with_none_arriving old
