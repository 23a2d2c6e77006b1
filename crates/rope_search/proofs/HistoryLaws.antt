-- Edits are undone and redone, and what is shown depends only on text and pattern.
use Rattle.std.proofs.Common.{◌≡◌, ℕ, zero, suc, ◌+◌, ◌-◌, ◌<◌, List, [], ◌∷◌, ◌++◌, length, take, slice_index_or, refl, sym, ap, ◌∙◌, subst, arith}
use Rattle.std.specs.Prelude.{Option, None, Some, MatchOption, Ok, Err}
use Rattle.std.proofs.lemmas.List.{get_or-set_same, length-set}
use Rattle.rope_search_io.specs.declared.faults.Fault.TheVariants.{Nothing, Memory}
use Rattle.rope_search.specs.declared.commands.Reply.{Reply}
use Rattle.rope_search.specs.declared.commands.Reply.TheVariants.{Done, Number, List as Listing, Print}
use Rattle.rope_search_reports.specs.Text.{bytes_of}
use Rattle.rope_search_reports.specs.Report.{IsReport}
use Rattle.rope_search_reports.specs.Laws.{HasOneReport}
use Rattle.rope_search.specs.Order.{UndoEdit, PrintText, ListMatches}
use Rattle.rope_search.specs.Session.{State, BufferState, fresh, current_text, chosen_buffer, with_chosen, with_edit, undone, redone, IsReportIn}
use Rattle.rope_search.specs.Replacing.{text_with}
use Rattle.rope_search.specs.Shows.{Shows, shown_text, shown_report}
use Rattle.rope_search.specs.Step.{Answer, Step}
use Rattle.rope_search.specs.Laws.{HasCurrent, AreChosenAlike, UndoUndoesEdit, UndoUndoesReplace, RedoRedoesUndo, RepliesAlike}

-- ---- the chosen buffer of a session

-- a buffer in place of the chosen one is the chosen one
pub chosen_set : (s : State) (buffer : BufferState) → s.chosen < length s.buffers → chosen_buffer (with_chosen s buffer) ≡ buffer
chosen_set s buffer inside = get_or-set_same s.buffers s.chosen buffer (fresh []) inside

-- ---- undo and redo

-- a text is still in the list without those that an edit drops
kept_text : (texts : List (List ℕ)) (n m : ℕ) (more : List (List ℕ)) → n < length texts → n < m → slice_index_or (take m texts ++ more) n [] ≡ slice_index_or texts n []
kept_text texts n zero more inside kept = absurd (omega arith)
kept_text [] n (suc m) more inside kept = absurd (omega arith)
kept_text (t ∷ ts) zero (suc m) more inside kept = refl
kept_text (t ∷ ts) (suc n) (suc m) more inside kept = kept_text ts n m more (omega arith) (omega arith)

-- an undo directly after a new text restores text and pattern
undone_edit : (limit : ℕ) (old edited new : State) (text : List ℕ) (reply : Reply) → HasCurrent old → edited ≡ with_chosen old (with_edit (chosen_buffer old) text)
    → Step limit edited UndoEdit (Ok reply) new → AreChosenAlike new old
undone_edit limit old edited new text Done current is step =
    let buffer = chosen_buffer old in
    let with = with_edit buffer text in
    let there : chosen_buffer edited ≡ with = ap chosen_buffer is ∙ chosen_set old with current.chosen in
    let still : edited.chosen < length edited.buffers =
    subst (λ (s : State). s.chosen < length s.buffers) (sym is) (omega (arith, current.chosen, length-set old.buffers old.chosen with)) in
    let back : chosen_buffer new ≡ undone with = ap chosen_buffer step.1 ∙ chosen_set edited (undone (chosen_buffer edited)) still ∙ ap undone there in
    let number : buffer.current + 1 - 1 ≡ buffer.current = omega arith in
    record {
      text = ap current_text back ∙ ap (λ n. slice_index_or with.texts n []) number ∙ kept_text buffer.texts buffer.current (buffer.current + 1) (text ∷ []) current.current (omega arith);
      pattern = ap (λ (b : BufferState). b.pattern) back;
    }
undone_edit limit old edited new text reply current is step = absurd step.1

pub undo_edit : UndoUndoesEdit
undo_edit limit old edited new from to payload Done reply current first second =
    let edit = first.1.3 in
    undone_edit limit old edited new (edit.before ++ first.1.0 ++ edit.behind) reply current (first.1.4 ∙ ap (with_chosen old) edit.changed) second
undo_edit limit old edited new from to payload other reply current first second = absurd first.1

pub undo_replace : UndoUndoesReplace
undo_replace limit old edited new payload (Number count) reply current first second =
    let change = first.1.3 in
    undone_edit limit old edited new (text_with (chosen_buffer old) first.1.0 change.matches) reply current (first.1.4 ∙ ap (with_chosen old) change.changed) second
undo_replace limit old edited new payload other reply current first second = absurd first.1

positive : (n : ℕ) → (n ≡ 0 → ⊥) → 0 < n
positive zero some = absurd (some refl)
positive (suc n) some = omega arith

pub redo_undo : RedoRedoesUndo
redo_undo limit old mid new Done Done current first second =
    let buffer = chosen_buffer old in
    let there : chosen_buffer mid ≡ undone buffer = ap chosen_buffer first.1 ∙ chosen_set old (undone buffer) current.chosen in
    let still : mid.chosen < length mid.buffers =
    subst (λ (s : State). s.chosen < length s.buffers) (sym first.1) (omega (arith, current.chosen, length-set old.buffers old.chosen (undone buffer))) in
    let back : chosen_buffer new ≡ redone (undone buffer) = ap chosen_buffer second.1 ∙ chosen_set mid (redone (chosen_buffer mid)) still ∙ ap redone there in
    let some : buffer.current ≡ 0 → ⊥ = first.0 Nothing in
    let number : buffer.current - 1 + 1 ≡ buffer.current = omega (arith, positive buffer.current some) in
    record {
      text = ap current_text back ∙ ap (λ n. slice_index_or buffer.texts n []) number;
      pattern = ap (λ (b : BufferState). b.pattern) back;
    }
redo_undo limit old mid new Done other current first second = absurd second.1
redo_undo limit old mid new reply other current first second = absurd first.1

-- ---- what is shown

-- a text and a pattern have one report
pub same_report : HasOneReport → (s t : BufferState) (rows rows' : List (List (ℕ × ℕ))) → current_text s ≡ current_text t → s.pattern ≡ t.pattern → IsReportIn s rows → IsReportIn t rows' → rows ≡ rows'
same_report one s t rows rows' text pattern h k =
    told t.pattern rows rows'
    (subst (λ p. MatchOption p (rows ≡ []) (λ q. IsReport (current_text t) q rows)) pattern (subst (λ x. MatchOption s.pattern (rows ≡ []) (λ q. IsReport x q rows)) text h)) k
  where
    told : (p : Option (List ℕ)) (rows rows' : List (List (ℕ × ℕ))) → MatchOption p (rows ≡ []) (λ q. IsReport (current_text t) q rows)
        → MatchOption p (rows' ≡ []) (λ q. IsReport (current_text t) q rows') → rows ≡ rows'
    told None rows rows' h k = h ∙ sym k
    told (Some q) rows rows' h k = one (current_text t) q rows rows' h k

-- the answer to `print`
print_shown : (limit : ℕ) (s s' : State) (answer : Answer) (bytes : List ℕ) → Step limit s PrintText answer s' → Shows s' answer bytes
    → bytes ≡ shown_text (bytes_of (current_text (chosen_buffer s)))
print_shown limit s s' (Ok Print) bytes step shown = shown.shown ∙ ap (λ (t : State). shown_text (bytes_of (current_text (chosen_buffer t)))) step.1
print_shown limit s s' (Ok reply) bytes step shown = absurd step.1
print_shown limit s s' (Err Memory) bytes step shown = absurd step.0
print_shown limit s s' (Err fault) bytes step shown = absurd step.0.refuses

pub print_alike : RepliesAlike PrintText
print_alike limit limit' s t s' t' a b x y alike step step' shown shown' =
    print_shown limit s s' a x step shown ∙ ap (λ l. shown_text (bytes_of l)) alike.text ∙ sym (print_shown limit' t t' b y step' shown')

pub list_alike : HasOneReport → RepliesAlike ListMatches
list_alike one limit limit' s t s' t' (Ok Listing) (Ok Listing) x y alike step step' shown shown' =
    let here = subst (λ (u : State). IsReportIn (chosen_buffer u) shown.rows) step.1 shown.listed in
    let there = subst (λ (u : State). IsReportIn (chosen_buffer u) shown'.rows) step'.1 shown'.listed in
    shown.shown ∙ ap shown_report (same_report one (chosen_buffer s) (chosen_buffer t) shown.rows shown'.rows alike.text alike.pattern here there) ∙ sym shown'.shown
list_alike one limit limit' s t s' t' (Ok Listing) (Err Nothing) x y alike step step' shown shown' = absurd (step.0 Nothing (alike.pattern ∙ step'.0.refuses))
list_alike one limit limit' s t s' t' (Err Nothing) (Ok Listing) x y alike step step' shown shown' = absurd (step'.0 Nothing (sym alike.pattern ∙ step.0.refuses))
list_alike one limit limit' s t s' t' (Err Nothing) (Err Nothing) x y alike step step' shown shown' = shown.shown ∙ sym shown'.shown
list_alike one limit limit' s t s' t' (Ok Listing) (Err Memory) x y alike step step' shown shown' = absurd step'.0
list_alike one limit limit' s t s' t' (Err Nothing) (Err Memory) x y alike step step' shown shown' = absurd step'.0
list_alike one limit limit' s t s' t' (Err Memory) b x y alike step step' shown shown' = absurd step.0
list_alike one limit limit' s t s' t' (Ok Listing) (Ok reply) x y alike step step' shown shown' = absurd step'.1
list_alike one limit limit' s t s' t' (Err Nothing) (Ok reply) x y alike step step' shown shown' = absurd step'.1
list_alike one limit limit' s t s' t' (Ok Listing) (Err fault) x y alike step step' shown shown' = absurd step'.0.refuses
list_alike one limit limit' s t s' t' (Err Nothing) (Err fault) x y alike step step' shown shown' = absurd step'.0.refuses
list_alike one limit limit' s t s' t' (Ok reply) b x y alike step step' shown shown' = absurd step.1
list_alike one limit limit' s t s' t' (Err fault) b x y alike step step' shown shown' = absurd step.0.refuses
