-- What the buffers of a session keep, with another one in the chosen one's place.
use Rattle.std.proofs.Common.{◌≡◌, ℕ, zero, suc, ◌<◌, List, [], ◌∷◌, length, refl, sym, ap, ◌∙◌, subst, arith, slice_index_or, slice_set}
use Rattle.std.specs.Prelude.{Result, Ok, Err, OnOk, OnErr}
use Rattle.std.proofs.lemmas.List.{set-get_or, get_or-set_same}
use Rattle.rope_search_io.specs.declared.faults.Fault.{Fault}
use Rattle.rope_search.specs.Edits.{FullEdit, KeepsEdits}
use Rattle.rope_search.specs.Pending.{KeepsPending}
use Rattle.rope_search.specs.Session.{State, LimitedBuffer, LimitedSession, chosen_buffer, chosen_in, no_buffer}
use Rattle.rope_search.specs.TextsKept.{ChangesChosen, KeepsEditsOf, TellsText}
use Rattle.rope_search.proofs.SessionLemmas.{Chosen, Chosen-state, state_with}
use Rattle.rope_search.proofs.ChangedLemmas.{chosen-with, told_with, told-set}

-- an element that is there, whatever stands for none
pub get_there : {A : Type 0} (xs : List A) (k : ℕ) (d e : A) → k < length xs → slice_index_or xs k d ≡ slice_index_or xs k e
get_there [] k d e low = absurd (omega (arith, low))
get_there (x ∷ xs) zero d e low = refl
get_there (x ∷ xs) (suc k) d e low = get_there xs k d e (omega (arith, low))

-- the chosen one of the session's buffers
pub chosen-there : (items : List LimitedBuffer) (k limit : ℕ) (old : LimitedBuffer) (s : LimitedSession) → Chosen items k limit old s → chosen_in s ≡ old
chosen-there items k limit old s c = sym (ap chosen_in c.seen) ∙ get_there items k no_buffer old c.inside ∙ sym c.is

-- another one in its place
pub put-there : (items : List LimitedBuffer) (k limit : ℕ) (old new : LimitedBuffer) (s : LimitedSession) → Chosen items k limit old s
    → slice_set items k new ≡ slice_set s.buffers s.state.chosen new
put-there items k limit old new s c = ap (λ (t : LimitedSession). slice_set t.buffers t.state.chosen new) c.seen

pub keeps : (K : LimitedBuffer → LimitedBuffer → Type 0) (items : List LimitedBuffer) (k limit : ℕ) (old new : LimitedBuffer) (s t : LimitedSession) → Chosen items k limit old s
    → t.buffers ≡ slice_set items k new → t.state ≡ state_with items k new → t.changed ≡ told_with items k new → K old new → ChangesChosen K s t
keeps K items k limit old new s t c put state rows told = record {
  buffer = new;
  keeps = subst (λ b. K b new) (sym (chosen-there items k limit old s c)) told;
  was = ap (λ (b : LimitedBuffer). b.state) (chosen-there items k limit old s c) ∙ sym (Chosen-state items k limit old s c);
  state = sym (ap chosen_buffer state ∙ chosen-with items k limit old new s c);
  is =
      ap (λ (bs : List LimitedBuffer). slice_index_or bs t.state.chosen no_buffer) put
      ∙ ap (λ (u : State). slice_index_or (slice_set items k new) u.chosen no_buffer) state
      ∙ get_or-set_same items k new no_buffer c.inside;
  put = put ∙ put-there items k limit old new s c;
  told = rows ∙ told-set items k limit old new s c;
}

-- the same one in its place
pub same-there : (items : List LimitedBuffer) (k limit : ℕ) (old new : LimitedBuffer) (s : LimitedSession) → Chosen items k limit old s → new ≡ old
    → slice_set items k new ≡ s.buffers
same-there items k limit old new s c same =
    ap (slice_set items k) (same ∙ c.is) ∙ set-get_or items k old ∙ ap (λ (t : LimitedSession). t.buffers) c.seen

-- ---- several edits, however they are answered

pub texts_told : (items : List LimitedBuffer) (k limit : ℕ) (old new : LimitedBuffer) (s t : LimitedSession) → Chosen items k limit old s
    → (edits : List FullEdit) (result : Result (Unit {0}) Fault) → t.buffers ≡ slice_set items k new → t.state ≡ state_with items k new → t.changed ≡ told_with items k new
    → OnOk result (KeepsEdits old edits new) → OnOk result (TellsText old new) → OnOk result (KeepsPending old new)
    → OnOk result (ChangesChosen (KeepsEditsOf edits) s t)
texts_told items k limit old new s t c edits (Ok tt) put state rows kept text pending = keeps (KeepsEditsOf edits) items k limit old new s t c put state rows (kept, text, pending)
texts_told items k limit old new s t c edits (Err fault) put state rows kept text pending = tt

pub still_told : (items : List LimitedBuffer) (k limit : ℕ) (old new : LimitedBuffer) (s : LimitedSession) → Chosen items k limit old s
    → (result : Result (Unit {0}) Fault) → OnErr result (new ≡ old) → OnErr result (slice_set items k new ≡ s.buffers)
still_told items k limit old new s c (Ok tt) same = tt
still_told items k limit old new s c (Err fault) same = same-there items k limit old new s c same
