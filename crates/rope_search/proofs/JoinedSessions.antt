-- A buffer whose last steps are made one, and the session that it stands in.
use Rattle.std.proofs.Common.{◌≡◌, ℕ, List, take, drop, slice_set, sym, subst}
use Rattle.std.specs.Prelude.{Result, Ok, Err, OnOk, OnErr}
use Rattle.std.proofs.lemmas.List.Elements.{All-append, All-take, All-drop}
use Rattle.rope_search_io.specs.declared.faults.Fault.{Fault}
use Rattle.rope_search_reports.specs.Text.{IsText}
use Rattle.rope_search.specs.JoinedSteps.{JoinsChanges, KeepsJoined, number_joined, with_joined}
use Rattle.rope_search.specs.Laws.{HoldsTexts}
use Rattle.rope_search.specs.Session.{BufferState, LimitedBuffer, LimitedSession, chosen_buffer, with_chosen}
use Rattle.rope_search.specs.TextsKept.{ChangesChosen}
use Rattle.rope_search.proofs.SessionLemmas.{Chosen, Chosen-set, state_with}
use Rattle.rope_search.proofs.ChangedLemmas.{told_with}
use Rattle.rope_search.proofs.KeptLemmas.{keeps}

pub holds_joined : (old new : BufferState) (steps : ℕ) → HoldsTexts old → new ≡ with_joined old steps → HoldsTexts new
holds_joined old new steps holds told = subst HoldsTexts (sym told) (record {
  texts = All-append IsText (take (number_joined old.current steps) old.texts) (drop old.current old.texts)
      (All-take IsText (number_joined old.current steps) old.texts holds.texts) (All-drop IsText old.current old.texts holds.texts);
  pattern = holds.pattern;
})

pub joined_holds : (old new : LimitedBuffer) (steps : ℕ) → HoldsTexts old.state → (result : Result (Unit {0}) Fault) → OnOk result (new.state ≡ with_joined old.state steps)
    → OnErr result (new ≡ old) → HoldsTexts new.state
joined_holds old new steps holds (Ok tt) told same = holds_joined old.state new.state steps holds told
joined_holds old new steps holds (Err fault) told same = subst (λ (b : LimitedBuffer). HoldsTexts b.state) (sym same) holds

pub joined_state : (items : List LimitedBuffer) (k limit : ℕ) (old new : LimitedBuffer) (s : LimitedSession) (steps : ℕ) → Chosen items k limit old s
    → (result : Result (Unit {0}) Fault) → OnOk result (new.state ≡ with_joined old.state steps)
    → OnOk result (state_with items k new ≡ with_chosen s.state (with_joined (chosen_buffer s.state) steps))
joined_state items k limit old new s steps c (Ok tt) told = Chosen-set items k limit old new s (λ b. with_joined b steps) c told
joined_state items k limit old new s steps c (Err fault) told = tt

pub joined_kept : (items : List LimitedBuffer) (k limit : ℕ) (old new : LimitedBuffer) (s t : LimitedSession) (steps : ℕ) → Chosen items k limit old s
    → (result : Result (Unit {0}) Fault) → t.buffers ≡ slice_set items k new → t.state ≡ state_with items k new → t.changed ≡ told_with items k new
    → OnOk result (JoinsChanges old.changes old.state.current steps new.changes) → new.text_changes ≡ old.text_changes → new.pending ≡ old.pending
    → OnOk result (ChangesChosen (KeepsJoined steps) s t)
joined_kept items k limit old new s t steps c (Ok tt) put state rows told same still = keeps (KeepsJoined steps) items k limit old new s t c put state rows (told, same, still)
joined_kept items k limit old new s t steps c (Err fault) put state rows told same still = tt
