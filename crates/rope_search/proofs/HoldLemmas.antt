-- The buffers of a session hold texts and patterns, and have one limit, also if one of them is
-- changed or another one is added.
use Rattle.std.proofs.Common.{◌≡◌, ℕ, ◌+◌, ◌<◌, List, [], ◌∷◌, ◌++◌, length, take, ap, sym, subst, ◌∙◌, All, slice_index_or, slice_set}
use Rattle.std.specs.Prelude.{Some}
use Rattle.std.proofs.lemmas.List.{get_or-set_same, get_or_append_left}
use Rattle.std.proofs.lemmas.List.Elements.{All-set, All-push, All-take, All-drop}
use Rattle.rope_search_reports.specs.Text.{IsText}
use Rattle.rope_search_reports.specs.Pattern.{IsPattern}
use Rattle.rope_search.specs.Session.{BufferState, LimitedBuffer, fresh, current_text, limit_in, no_buffer, with_text, with_pattern}
use Rattle.rope_search.specs.Laws.{HoldsTexts}
use Rattle.rope_search.specs.UndoSteps.{first_kept, with_steps}
use Rattle.rope_search.proofs.HoldLaws.{one_text, holds_fresh, text_holds}

-- what holds of each buffer of a session
pub record AllKept (items : List LimitedBuffer) (limit : ℕ) : Type 0 where
  pub limits : All (λ (b : LimitedBuffer). b.limit ≡ limit) items
  pub texts : All (λ (b : LimitedBuffer). HoldsTexts b.state) items

-- another one in place of the chosen one
pub kept_set : (items : List LimitedBuffer) (k : ℕ) (new : LimitedBuffer) → k < length items → new.limit ≡ limit_in items k
    → HoldsTexts new.state → AllKept items (limit_in items k) → AllKept (slice_set items k new) (limit_in (slice_set items k new) k)
kept_set items k new inside same holds kept =
    let at : limit_in (slice_set items k new) k ≡ limit_in items k = ap (λ (b : LimitedBuffer). b.limit) (get_or-set_same items k new no_buffer inside) ∙ same in
    record {
      limits = subst (λ l. All (λ (b : LimitedBuffer). b.limit ≡ l) (slice_set items k new)) (sym at)
          (All-set (λ (b : LimitedBuffer). b.limit ≡ limit_in items k) items k new same kept.limits);
      texts = All-set (λ (b : LimitedBuffer). HoldsTexts b.state) items k new holds kept.texts;
    }

-- one more, after them
pub kept_push : (items : List LimitedBuffer) (k : ℕ) (new : LimitedBuffer) → k < length items → new.limit ≡ limit_in items k
    → HoldsTexts new.state → AllKept items (limit_in items k) → AllKept (items ++ new ∷ []) (limit_in (items ++ new ∷ []) k)
kept_push items k new inside same holds kept =
    let at : limit_in (items ++ new ∷ []) k ≡ limit_in items k = ap (λ (b : LimitedBuffer). b.limit) (get_or_append_left items (new ∷ []) no_buffer k inside) in
    record {
      limits = subst (λ l. All (λ (b : LimitedBuffer). b.limit ≡ l) (items ++ new ∷ [])) (sym at)
          (All-push (λ (b : LimitedBuffer). b.limit ≡ limit_in items k) items new kept.limits same);
      texts = All-push (λ (b : LimitedBuffer). HoldsTexts b.state) items new kept.texts holds;
    }

-- the chosen one's limit is that of all, and it holds texts
pub kept_limit : (items : List LimitedBuffer) (k : ℕ) (old : LimitedBuffer) → k < length items → old ≡ slice_index_or items k old
    → AllKept items (limit_in items k) → old.limit ≡ limit_in items k
kept_limit items k old inside is kept = ap (λ (b : LimitedBuffer). b.limit) is ∙ kept.limits k old inside

pub kept_holds : (items : List LimitedBuffer) (k : ℕ) (old : LimitedBuffer) → k < length items → old ≡ slice_index_or items k old
    → AllKept items (limit_in items k) → HoldsTexts old.state
kept_holds items k old inside is kept = subst (λ (b : LimitedBuffer). HoldsTexts b.state) (sym is) (kept.texts k old inside)

-- a text, or a pattern, that is set
pub holds_text : (old new : BufferState) (text : List ℕ) → HoldsTexts old → IsText text → new ≡ with_text old text → HoldsTexts new
holds_text old new text holds is told = subst HoldsTexts (sym told) (record { texts = one_text text is; pattern = holds.pattern })

pub holds_pattern : (old new : BufferState) (pattern : List ℕ) → HoldsTexts old → IsText pattern → IsPattern pattern
    → new ≡ with_pattern old (Some pattern) → HoldsTexts new
holds_pattern old new pattern holds is one told = subst HoldsTexts (sym told) (record { texts = holds.texts; pattern = (is, one) })

-- its current text only
pub holds_forked : (old new : BufferState) → HoldsTexts old → new ≡ fresh (current_text old) → HoldsTexts new
holds_forked old new holds told = subst HoldsTexts (sym told) (holds_fresh (current_text old) (text_holds old holds))

pub holds_forgotten : (old new : BufferState) → HoldsTexts old → new ≡ with_text old (current_text old) → HoldsTexts new
holds_forgotten old new holds told = holds_text old new (current_text old) holds (text_holds old holds) told

-- the last of its texts
pub holds_steps : (old new : BufferState) (steps : ℕ) → HoldsTexts old → new ≡ with_steps old steps → HoldsTexts new
holds_steps old new steps holds told = subst HoldsTexts (sym told) (record {
  texts = All-drop IsText (first_kept old.current steps) (take (old.current + 1) old.texts) (All-take IsText (old.current + 1) old.texts holds.texts);
  pattern = holds.pattern;
})
