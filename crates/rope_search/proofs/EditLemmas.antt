-- Edits, undo and redo of the chosen buffer: steps of the session, and the rows that they may make.
use Rattle.std.proofs.Common.{◌≡◌, ◌≢◌, ℕ, ◌+◌, ◌<◌, ◌≤◌, ◌⊎◌, List, length, refl, sym, ap, ◌∙◌, subst, inl, inr, if◌then◌else◌, IsUtf8, Ok, Err, arith}
use Rattle.std.specs.Prelude.{is_some}
use Rattle.std.specs.Str.{chars}
use Rattle.rope_search_io.specs.declared.faults.Fault.{Fault}
use Rattle.rope_search_io.specs.declared.faults.Fault.TheVariants.{Nothing, Range, Utf8, Size, Memory}
use Rattle.rope_search_reports.specs.declared.positions.Position.{Position}
use Rattle.rope_search_reports.specs.Text.{line_count}
use Rattle.rope_search.specs.declared.commands.CommandOf.TheVariants.{Edit, Undo, Redo}
use Rattle.rope_search.specs.declared.commands.Payload.{Payload}
use Rattle.rope_search.specs.declared.commands.Reply.{Reply}
use Rattle.rope_search.specs.declared.commands.Reply.TheVariants.{Done}
use Rattle.rope_search.specs.Order.{Order, EditText, UndoEdit, RedoEdit}
use Rattle.rope_search.specs.Session.{State, BufferState, LimitedBuffer, LimitedSession, current_text, chosen_buffer, undone, redone}
use Rattle.rope_search.specs.Stands.{Stands, StandsFor}
use Rattle.rope_search.specs.Places.{IsBetween, HasNoneBetween, GetsTooLong, TellsRangeOr, IsEdit}
use Rattle.rope_search.specs.Step.{Refuses, Does, Step}
use Rattle.rope_search.specs.Cost.{Costs, rows_anew, rows_of_report}
use Rattle.rope_search.proofs.StepLaws.{accepted_edit, accepted_undo, accepted_redo, refused_range, refused_edit_utf8, refused_edit_size}
use Rattle.rope_search.proofs.SessionLemmas.{Chosen, state_with, Chosen-limit, Chosen-state, Chosen-with, Chosen-set}
use Rattle.rope_search.proofs.TextLemmas.{Encodes-chars}

-- what holds of each payload holds of each command
pub rows_for_edit : (limit : ℕ) (s : State) (from to : Position) (payload : Payload) (count before : ℕ)
    → ((bytes : List ℕ) (cost : ℕ) → StandsFor limit payload bytes → Costs limit s (EditText from to bytes) cost → count ≤ before + cost)
    → (order : Order) (cost : ℕ) → Stands limit (Edit from to payload) order → Costs limit s order cost → count ≤ before + cost
rows_for_edit limit s from to payload count before each (EditText start end bytes) cost stands costs =
    each bytes cost stands.2 (subst (λ p. Costs limit s (EditText from p bytes) cost) stands.1 (subst (λ p. Costs limit s (EditText p end bytes) cost) stands.0 costs))
rows_for_edit limit s from to payload count before each order cost stands costs = absurd stands

pub rows_for_undo : (limit : ℕ) (s : State) (count before : ℕ) → ((cost : ℕ) → Costs limit s UndoEdit cost → count ≤ before + cost)
    → (order : Order) (cost : ℕ) → Stands limit Undo order → Costs limit s order cost → count ≤ before + cost
rows_for_undo limit s count before each UndoEdit cost stands costs = each cost costs
rows_for_undo limit s count before each order cost stands costs = absurd stands

pub rows_for_redo : (limit : ℕ) (s : State) (count before : ℕ) → ((cost : ℕ) → Costs limit s RedoEdit cost → count ≤ before + cost)
    → (order : Order) (cost : ℕ) → Stands limit Redo order → Costs limit s order cost → count ≤ before + cost
rows_for_redo limit s count before each RedoEdit cost stands costs = each cost costs
rows_for_redo limit s count before each order cost stands costs = absurd stands

-- ---- an edit that is made

-- the chosen buffer is edited: a step of the session
pub Step-take_edit : (items : List LimitedBuffer) (k limit : ℕ) (old new : LimitedBuffer) (from to : Position) (bytes : List ℕ) (s : LimitedSession) → Chosen items k limit old s
    → IsUtf8 bytes → IsEdit old.state from to (chars bytes) new.state → (GetsTooLong old.limit (current_text old.state) from to (length bytes) → ⊥)
    → Step s.limit s.state (EditText from to bytes) (Ok Done) (state_with items k new)
Step-take_edit items k limit old new from to bytes s c utf8 edit short =
    let chosen = Chosen-state items k limit old s c in
    let same = Chosen-limit items k limit old s c in
    let between : IsBetween (current_text (chosen_buffer s.state)) from to edit.before edit.part edit.behind =
    subst (λ b. IsBetween (current_text b) from to edit.before edit.part edit.behind) (sym chosen) edit.between in
    let fits : GetsTooLong s.limit (current_text (chosen_buffer s.state)) from to (length bytes) → ⊥ =
    λ long. short (subst (λ b. GetsTooLong old.limit (current_text b) from to (length bytes)) chosen
    (subst (λ n. GetsTooLong n (current_text (chosen_buffer s.state)) from to (length bytes)) (sym same) long)) in (
      accepted_edit s.limit s.state from to bytes edit.before edit.part edit.behind between utf8 fits,
      (
        chars bytes,
        new.state,
        Encodes-chars bytes utf8,
        subst (λ b. IsEdit b from to (chars bytes) new.state) (sym chosen) edit,
        Chosen-set items k limit old new s (λ b. new.state) c refl,
      ),
    )

-- ---- an edit that is refused

pub Step-edit_range : (old : LimitedBuffer) (from to : Position) (bytes : List ℕ) (s : LimitedSession) → old.state ≡ chosen_buffer s.state
    → HasNoneBetween (current_text old.state) from to → Step s.limit s.state (EditText from to bytes) (Err Range) s.state
Step-edit_range old from to bytes s same none =
    (refused_range s.limit s.state from to bytes (subst (λ b. HasNoneBetween (current_text b) from to) same none), refl)

pub Step-edit_size : (old : LimitedBuffer) (from to : Position) (bytes : List ℕ) (s : LimitedSession) → old.state ≡ chosen_buffer s.state → old.limit ≡ s.limit
    → IsUtf8 bytes → GetsTooLong old.limit (current_text old.state) from to (length bytes) → Step s.limit s.state (EditText from to bytes) (Err Size) s.state
Step-edit_size old from to bytes s same limit utf8 long =
    let here : GetsTooLong old.limit (current_text (chosen_buffer s.state)) from to (length bytes) =
    subst (λ b. GetsTooLong old.limit (current_text b) from to (length bytes)) same long in
    (refused_edit_size s.limit s.state from to bytes utf8 (subst (λ n. GetsTooLong n (current_text (chosen_buffer s.state)) from to (length bytes)) limit here), refl)

-- a refusal of the chosen buffer is one of the session
pub Step-edit_err : (old : LimitedBuffer) (from to : Position) (bytes : List ℕ) (s : LimitedSession) (fault : Fault) → old.state ≡ chosen_buffer s.state → old.limit ≡ s.limit
    → IsUtf8 bytes → (fault ≡ Range) ⊎ ((fault ≡ Size) ⊎ (fault ≡ Memory)) → (fault ≡ Range → HasNoneBetween (current_text old.state) from to)
    → (fault ≡ Size → GetsTooLong old.limit (current_text old.state) from to (length bytes)) → Step s.limit s.state (EditText from to bytes) (Err fault) s.state
Step-edit_err old from to bytes s fault same limit utf8 (inl e) none long =
    subst (λ f. Step s.limit s.state (EditText from to bytes) (Err f) s.state) (sym e) (Step-edit_range old from to bytes s same (none e))
Step-edit_err old from to bytes s fault same limit utf8 (inr (inl e)) none long =
    subst (λ f. Step s.limit s.state (EditText from to bytes) (Err f) s.state) (sym e) (Step-edit_size old from to bytes s same limit utf8 (long e))
Step-edit_err old from to bytes s fault same limit utf8 (inr (inr e)) none long =
    subst (λ f. Step s.limit s.state (EditText from to bytes) (Err f) s.state) (sym e) (tt, refl)

-- a payload that isn't UTF-8 is refused for that, unless no part is between the positions
pub Step-edit_utf8 : (old : LimitedBuffer) (from to : Position) (bytes : List ℕ) (s : LimitedSession) (told : Fault) → old.state ≡ chosen_buffer s.state
    → TellsRangeOr (current_text old.state) from to Utf8 told → ¬ (IsUtf8 bytes) → Step s.limit s.state (EditText from to bytes) (Err told) s.state
Step-edit_utf8 old from to bytes s told same (inl nowhere) broken =
    subst (λ f. Step s.limit s.state (EditText from to bytes) (Err f) s.state) (sym nowhere.1) (Step-edit_range old from to bytes s same nowhere.0)
Step-edit_utf8 old from to bytes s told same (inr part) broken =
    let here = subst (λ b. IsBetween (current_text b) from to part.0 part.1 part.2) same part.3 in
    subst (λ f. Step s.limit s.state (EditText from to bytes) (Err f) s.state) (sym part.4)
    (refused_edit_utf8 s.limit s.state from to bytes part.0 part.1 part.2 here broken, refl)

-- one longer than the limit is refused for that, with the same exception
pub Step-edit_long : (old : LimitedBuffer) (from to : Position) (bytes : List ℕ) (s : LimitedSession) (told : Fault) → old.state ≡ chosen_buffer s.state
    → TellsRangeOr (current_text old.state) from to Size told → IsUtf8 bytes → s.limit < length bytes → Step s.limit s.state (EditText from to bytes) (Err told) s.state
Step-edit_long old from to bytes s told same (inl nowhere) utf8 long =
    subst (λ f. Step s.limit s.state (EditText from to bytes) (Err f) s.state) (sym nowhere.1) (Step-edit_range old from to bytes s same nowhere.0)
Step-edit_long old from to bytes s told same (inr part) utf8 long =
    let here = subst (λ b. IsBetween (current_text b) from to part.0 part.1 part.2) same part.3 in
    let over : GetsTooLong s.limit (current_text (chosen_buffer s.state)) from to (length bytes) =
    record { before = part.0; part = part.1; behind = part.2; between = here; long = omega (arith, long) } in
    subst (λ f. Step s.limit s.state (EditText from to bytes) (Err f) s.state) (sym part.4) (refused_edit_size s.limit s.state from to bytes utf8 over, refl)

-- ---- the rows of an edit

-- an edit doesn't change the pattern
edited_pattern : (old : BufferState) (from to : Position) (inserted : List ℕ) (new : BufferState) → IsEdit old from to inserted new → new.pattern ≡ old.pattern
edited_pattern old from to inserted new edit = ap (λ (b : BufferState). b.pattern) edit.changed

-- the rows that an edit may make are those of the command's cost
pub rows_edited : (items : List LimitedBuffer) (k limit : ℕ) (old : LimitedBuffer) (from to : Position) (bytes : List ℕ) (s : LimitedSession) (count before : ℕ)
    → Chosen items k limit old s → IsUtf8 bytes → (HasNoneBetween (current_text old.state) from to → count ≤ before)
    → (GetsTooLong old.limit (current_text old.state) from to (length bytes) → count ≤ before) → count ≤ before + rows_anew old.state (chars bytes)
    → (cost : ℕ) → Costs s.limit s.state (EditText from to bytes) cost → count ≤ before + cost
rows_edited items k limit old from to bytes s count before c utf8 nowhere long rows cost (inl refused) = omega (arith, told refused.0 refused.1)
  where
    told : (fault : Fault) → Refuses s.limit s.state (EditText from to bytes) fault → count ≤ before
    told Range h = nowhere (subst (λ b. HasNoneBetween (current_text b) from to) (Chosen-state items k limit old s c) h)
    told Utf8 h = absurd (h utf8)
    told Size h =
        long (subst (λ b. GetsTooLong old.limit (current_text b) from to (length bytes)) (Chosen-state items k limit old s c)
        (subst (λ n. GetsTooLong n (current_text (chosen_buffer s.state)) from to (length bytes)) (sym (Chosen-limit items k limit old s c)) h))
    told fault h = absurd h
rows_edited items k limit old from to bytes s count before c utf8 nowhere long rows cost (inr costs) =
    omega (arith, rows, costs.rows, told costs.reply costs.new costs.step.1)
  where
    told : (reply : Reply) (new : State) → Does s.state (EditText from to bytes) reply new → rows_anew (chosen_buffer new) (chars bytes) ≡ rows_anew old.state (chars bytes)
    told Done new h =
        let there : chosen_buffer new ≡ h.1 = ap chosen_buffer h.4 ∙ Chosen-with items k limit old s c h.1 in
        let pattern = edited_pattern (chosen_buffer s.state) from to h.0 h.1 h.3 in
        ap (λ (b : BufferState). rows_anew b (chars bytes)) there ∙ ap (λ p. if is_some p then line_count (chars bytes) else 0) pattern
        ∙ ap (λ (b : BufferState). rows_anew b (chars bytes)) (Chosen-state items k limit old s c)
    told reply new h = absurd h

-- ---- undo and redo

pub Step-undone : (items : List LimitedBuffer) (k limit : ℕ) (old new : LimitedBuffer) (s : LimitedSession) → Chosen items k limit old s
    → old.state.current ≢ 0 → new.state ≡ undone old.state → Step s.limit s.state UndoEdit (Ok Done) (state_with items k new)
Step-undone items k limit old new s c some set = (
  accepted_undo s.limit s.state (λ none. some (sym (ap (λ (b : BufferState). b.current) (Chosen-state items k limit old s c)) ∙ none)),
  Chosen-set items k limit old new s undone c set,
)

pub Step-redone : (items : List LimitedBuffer) (k limit : ℕ) (old new : LimitedBuffer) (s : LimitedSession) → Chosen items k limit old s
    → old.state.current + 1 < length old.state.texts → new.state ≡ redone old.state → Step s.limit s.state RedoEdit (Ok Done) (state_with items k new)
Step-redone items k limit old new s c some set = (
  accepted_redo s.limit s.state (subst (λ (b : BufferState). b.current + 1 < length b.texts) (sym (Chosen-state items k limit old s c)) some),
  Chosen-set items k limit old new s redone c set,
)

-- the rows that an undo or a redo may make are those of the command's cost
pub rows_undone : (items : List LimitedBuffer) (k limit : ℕ) (old : LimitedBuffer) (s : LimitedSession) (count before : ℕ) → Chosen items k limit old s
    → (old.state.current ≡ 0 → count ≤ before) → count ≤ before + rows_anew old.state (current_text (undone old.state))
    → (cost : ℕ) → Costs s.limit s.state UndoEdit cost → count ≤ before + cost
rows_undone items k limit old s count before c none rows cost (inl refused) = omega (arith, told refused.0 refused.1)
  where
    told : (fault : Fault) → Refuses s.limit s.state UndoEdit fault → count ≤ before
    told Nothing h = none (sym (ap (λ (b : BufferState). b.current) (Chosen-state items k limit old s c)) ∙ h)
    told fault h = absurd h
rows_undone items k limit old s count before c none rows cost (inr costs) = omega (arith, rows, costs.rows, told costs.reply costs.new costs.step.1)
  where
    told : (reply : Reply) (new : State) → Does s.state UndoEdit reply new → rows_of_report new ≡ rows_anew old.state (current_text (undone old.state))
    told Done new h =
        ap rows_of_report h ∙ ap (λ (b : BufferState). rows_anew b (current_text b)) (Chosen-with items k limit old s c (undone (chosen_buffer s.state)))
        ∙ ap (λ (b : BufferState). rows_anew b (current_text (undone b))) (Chosen-state items k limit old s c)
    told reply new h = absurd h

pub rows_redone : (items : List LimitedBuffer) (k limit : ℕ) (old : LimitedBuffer) (s : LimitedSession) (count before : ℕ) → Chosen items k limit old s
    → (length old.state.texts ≤ old.state.current + 1 → count ≤ before) → count ≤ before + rows_anew old.state (current_text (redone old.state))
    → (cost : ℕ) → Costs s.limit s.state RedoEdit cost → count ≤ before + cost
rows_redone items k limit old s count before c none rows cost (inl refused) = omega (arith, told refused.0 refused.1)
  where
    told : (fault : Fault) → Refuses s.limit s.state RedoEdit fault → count ≤ before
    told Nothing h = none (subst (λ (b : BufferState). length b.texts ≤ b.current + 1) (Chosen-state items k limit old s c) h)
    told fault h = absurd h
rows_redone items k limit old s count before c none rows cost (inr costs) = omega (arith, rows, costs.rows, told costs.reply costs.new costs.step.1)
  where
    told : (reply : Reply) (new : State) → Does s.state RedoEdit reply new → rows_of_report new ≡ rows_anew old.state (current_text (redone old.state))
    told Done new h =
        ap rows_of_report h ∙ ap (λ (b : BufferState). rows_anew b (current_text b)) (Chosen-with items k limit old s c (redone (chosen_buffer s.state)))
        ∙ ap (λ (b : BufferState). rows_anew b (current_text (redone b))) (Chosen-state items k limit old s c)
    told reply new h = absurd h
