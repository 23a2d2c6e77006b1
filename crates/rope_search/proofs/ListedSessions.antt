-- The replacement of listed matches in the chosen buffer of a session.
use Rattle.std.proofs.Common.{◌≡◌, ◌↔◌, ◌⊎◌, inl, inr, ℕ, ◌+◌, List, [], ◌∷◌, None, Some, Ok, Err, IfOk, IfErr, IsUtf8, map, take, refl, sym, ap, subst, ◌∙◌, chars, slice_set}
use Rattle.std.specs.Prelude.{OnOk, OnErr, Option, Result, MatchOption}
use Rattle.std.proofs.lemmas.List.Elements.{All-append, All-take}
use Rattle.rope_search_io.specs.declared.faults.Fault.{Fault}
use Rattle.rope_search_io.specs.declared.faults.Fault.TheVariants.{Nothing, Range, Utf8, Pattern, Limit, Size, Memory}
use Rattle.rope_search_reports.specs.LineGroups.{LineReplacedIsText, joined}
use Rattle.rope_search_reports.specs.Text.{IsText}
use Rattle.rope_search.specs.Changed.{Replaces}
use Rattle.rope_search.specs.Laws.{HoldsTexts}
use Rattle.rope_search.specs.Pending.{KeepsPending}
use Rattle.rope_search.specs.ListedReplacing.{GetsTooLongListed, IsListedReplacement, KeepsListed, KeepsListedOf, RowsOfListed, SpansListed, StepByListed, TellsListed}
use Rattle.rope_search.specs.Replacing.{text_with}
use Rattle.rope_search.specs.Session.{BufferState, LimitedBuffer, LimitedSession, State, chosen_buffer, current_text, limit_in, with_edit}
use Rattle.rope_search.specs.TextsKept.{ChangesChosen, TellsText}
use Rattle.rope_search.proofs.ChangedLemmas.{chosen-with, told-set, told_with}
use Rattle.rope_search.proofs.GroupsAtLemmas.{session_kept}
use Rattle.rope_search.proofs.HoldLaws.{one_text, text_holds}
use Rattle.rope_search.proofs.KeptLemmas.{keeps}
use Rattle.rope_search.proofs.SessionLemmas.{Chosen, Chosen-kept, Chosen-limit, Chosen-set, Chosen-state, state_with}

-- ---- the texts that it holds

holds-edit : (old new : BufferState) (text : List ℕ) → HoldsTexts old → IsText text → new ≡ with_edit old text → HoldsTexts new
holds-edit old new text h is told =
    let texts = All-append IsText (take (old.current + 1) old.texts) (text ∷ []) (All-take IsText (old.current + 1) old.texts h.texts) (one_text text is) in
    subst HoldsTexts (sym told) (record { texts = texts; pattern = h.pattern })

pub holds-listed : LineReplacedIsText → (from to : ℕ) (template : List ℕ) (old new : LimitedBuffer) → IsText template → HoldsTexts old.state → (result : Result ℕ Fault)
    → IfOk result (λ count. IsListedReplacement old.state from to template count new.state) → OnErr result (new ≡ old) → HoldsTexts new.state
holds-listed law from to template old new spelled h (Ok count) is same =
    let text = law (current_text old.state) is.are.pattern template from is.lists (text_holds old.state h) spelled is.are.are.are in
    holds-edit old.state new.state (text_with old.state template (joined is.lists)) h text is.changed
holds-listed law from to template old new spelled h (Err fault) is same = subst (λ (b : LimitedBuffer). HoldsTexts b.state) (sym same) h

-- ---- what it is answered

abbrev refused : Fault → Result ℕ Fault
refused fault = Err fault

module _ (items : List LimitedBuffer) (k limit : ℕ) (old new : LimitedBuffer) (s : LimitedSession) (c : Chosen items k limit old s) (from to : ℕ) where
  too-long-there : (template : List ℕ) → GetsTooLongListed s.limit (chosen_buffer s.state) from to template → GetsTooLongListed old.limit old.state from to template
  too-long-there template gets =
      subst (λ n. GetsTooLongListed n old.state from to template) (sym (Chosen-limit items k limit old s c))
      (subst (λ b. GetsTooLongListed s.limit b from to template) (Chosen-state items k limit old s c) gets)

  too-long-here : (template : List ℕ) → GetsTooLongListed old.limit old.state from to template → GetsTooLongListed s.limit (chosen_buffer s.state) from to template
  too-long-here template gets =
      subst (λ n. GetsTooLongListed n (chosen_buffer s.state) from to template) (Chosen-limit items k limit old s c)
      (subst (λ b. GetsTooLongListed old.limit b from to template) (sym (Chosen-state items k limit old s c)) gets)

  pub rows-there : (template : List ℕ) (n : ℕ) → RowsOfListed (chosen_buffer s.state) from to template n → RowsOfListed old.state from to template n
  rows-there template n rows = subst (λ b. RowsOfListed b from to template n) (Chosen-state items k limit old s c) rows

  pub pattern-there : (chosen_buffer s.state).pattern ≡ None → old.state.pattern ≡ None
  pattern-there none = sym (ap (λ (b : BufferState). b.pattern) (Chosen-state items k limit old s c)) ∙ none

  pattern-here : old.state.pattern ≡ None → (chosen_buffer s.state).pattern ≡ None
  pattern-here none = ap (λ (b : BufferState). b.pattern) (Chosen-state items k limit old s c) ∙ none

  pub listed-step : (bytes template : List ℕ) → template ≡ chars bytes → IsUtf8 bytes → (result : Result ℕ Fault)
      → IfOk result (λ count. IsListedReplacement old.state from to template count new.state) → (result ≡ Err Nothing) ↔ (old.state.pattern ≡ None)
      → (result ≡ Err Size → GetsTooLongListed old.limit old.state from to template) → OnOk result (GetsTooLongListed old.limit old.state from to template → ⊥)
      → IfErr result (λ fault. (fault ≡ Nothing) ⊎ ((fault ≡ Size) ⊎ (fault ≡ Memory))) → OnErr result (new ≡ old)
      → StepByListed s.limit s.state from to bytes result (state_with items k new)
  listed-step bytes template given utf8 (Ok count) is nothing size fits fault same = (
    utf8,
    λ gets. fits (too-long-there template (subst (λ t. GetsTooLongListed s.limit (chosen_buffer s.state) from to t) (sym given) gets)),
    (
      new.state,
      subst (λ t. IsListedReplacement (chosen_buffer s.state) from to t count new.state) given
          (subst (λ b. IsListedReplacement b from to template count new.state) (sym (Chosen-state items k limit old s c)) is),
      Chosen-set items k limit old new s (λ b. new.state) c refl,
    ),
  )
  listed-step bytes template given utf8 (Err fault) is nothing size fits which same = told fault which nothing size
    where
      kept : state_with items k new ≡ s.state
      kept = Chosen-kept items k limit old new s c same

      told : (fault : Fault) → (fault ≡ Nothing) ⊎ ((fault ≡ Size) ⊎ (fault ≡ Memory)) → (refused fault ≡ Err Nothing) ↔ (old.state.pattern ≡ None)
          → (refused fault ≡ Err Size → GetsTooLongListed old.limit old.state from to template)
          → StepByListed s.limit s.state from to bytes (Err fault) (state_with items k new)
      told Nothing which nothing size = (pattern-here (nothing.0 refl), kept)
      told Range (inl e) nothing size = absurd (cc)
      told Range (inr (inl e)) nothing size = absurd (cc)
      told Range (inr (inr e)) nothing size = absurd (cc)
      told Utf8 (inl e) nothing size = absurd (cc)
      told Utf8 (inr (inl e)) nothing size = absurd (cc)
      told Utf8 (inr (inr e)) nothing size = absurd (cc)
      told Pattern (inl e) nothing size = absurd (cc)
      told Pattern (inr (inl e)) nothing size = absurd (cc)
      told Pattern (inr (inr e)) nothing size = absurd (cc)
      told Limit (inl e) nothing size = absurd (cc)
      told Limit (inr (inl e)) nothing size = absurd (cc)
      told Limit (inr (inr e)) nothing size = absurd (cc)
      told Size which nothing size = (utf8, subst (λ t. GetsTooLongListed s.limit (chosen_buffer s.state) from to t) given (too-long-here template (size refl)), kept)
      told Memory which nothing size = ((λ none. absurd (let other = nothing.1 (pattern-there none) in cc)), utf8, kept)

  pub tells-listed : (template : List ℕ) (result : Result ℕ Fault) → OnOk result (Replaces old.state new.state new.changed) → OnOk result (SpansListed old.state from to template new.state new.changed)
      → OnOk result (TellsListed s.state from to template (state_with items k new) s.changed (told_with items k new))
  tells-listed template (Ok count) replaces few = record {
    stretch = new.changed;
    replaces = rw (Chosen-state items k limit old s c, chosen-with items k limit old new s c) replaces;
    few = rw (Chosen-state items k limit old s c, chosen-with items k limit old new s c) few;
    others = told-set items k limit old new s c;
  }
  tells-listed template (Err fault) replaces few = tt

  pub texts-listed : (t : LimitedSession) (template : List ℕ) (result : Result ℕ Fault) → t.buffers ≡ slice_set items k new → t.state ≡ state_with items k new
      → t.changed ≡ told_with items k new → OnOk result (KeepsListed old from to template new) → OnOk result (TellsText old new) → OnOk result (KeepsPending old new)
      → OnOk result (ChangesChosen (KeepsListedOf from to template) s t)
  texts-listed t template (Ok count) put state rows kept text pending = keeps (KeepsListedOf from to template) items k limit old new s t c put state rows (kept, text, pending)
  texts-listed t template (Err fault) put state rows kept text pending = tt

-- ---- where the template isn't UTF-8

pub listed-broken : (limit : ℕ) (s : State) (b : BufferState) (from to : ℕ) (bytes : List ℕ) (fault : Fault) → chosen_buffer s ≡ b → ¬ (IsUtf8 bytes)
    → MatchOption b.pattern (fault ≡ Nothing) (λ pattern. fault ≡ Utf8) → StepByListed limit s from to bytes (Err fault) s
listed-broken limit s b from to bytes fault is broken told = by b.pattern refl told
  where
    by : (pattern : Option (List ℕ)) → b.pattern ≡ pattern → MatchOption pattern (fault ≡ Nothing) (λ pattern. fault ≡ Utf8) → StepByListed limit s from to bytes (Err fault) s
    by None none told = rw told (ap (λ (b : BufferState). b.pattern) is ∙ none, refl)
    by (Some pattern) some told = rw told ((λ none. absurd (let same = sym (ap (λ (b : BufferState). b.pattern) is ∙ some) ∙ none in cc)), broken, refl)

-- ---- where it is refused

pub session-err : (items : List LimitedBuffer) (k : ℕ) (old new : LimitedBuffer) (s : LimitedSession) → Chosen items k (limit_in items k) old s → (result : Result ℕ Fault)
    → OnErr result (new ≡ old)
    → OnErr result (record { limit = limit_in (slice_set items k new) k; state = state_with items k new; changed = map (λ (b : LimitedBuffer). b.changed) (slice_set items k new); buffers = slice_set items k new } ≡ s)
session-err items k old new s c (Ok count) same = tt
session-err items k old new s c (Err fault) same = session_kept items k old new s c same
