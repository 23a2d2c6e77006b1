-- A session whose texts are texts and whose patterns are patterns.
use Rattle.std.proofs.Common.{◌≡◌, ℕ, List, [], ◌∷◌, length, refl, sym, subst, All, inl, inr}
use Rattle.std.specs.Prelude.{Some, IfSome}
use Rattle.std.proofs.lemmas.Bool.{cases_lt}
use Rattle.std.proofs.lemmas.List.{get_or_past}
use Rattle.std.proofs.lemmas.List.Elements.{All-nil, All-cons}
use Rattle.rope_search_reports.specs.Text.{IsText}
use Rattle.rope_search_reports.specs.Pattern.{IsPattern}
use Rattle.rope_search.specs.Session.{BufferState, State, first_state, fresh, current_text, chosen_buffer}
use Rattle.rope_search.specs.Laws.{HoldsTexts, AllHoldTexts}

pub one_text : (text : List ℕ) → IsText text → All IsText (text ∷ [])
one_text text is = All-cons IsText text [] is (All-nil IsText)

pub holds_fresh : (text : List ℕ) → IsText text → HoldsTexts (fresh text)
holds_fresh text is = record { texts = one_text text is; pattern = tt }

pub chosen_holds : (s : State) → AllHoldTexts s → HoldsTexts (chosen_buffer s)
chosen_holds s all = elim (cases_lt s.chosen (length s.buffers)) [
  | inl inside ↦ all s.chosen (fresh []) inside
  | inr past ↦ subst HoldsTexts (sym (get_or_past s.buffers s.chosen (fresh []) past)) (holds_fresh [] refl)
]

pub text_holds : (b : BufferState) → HoldsTexts b → IsText (current_text b)
text_holds b h = elim (cases_lt b.current (length b.texts)) [
  | inl inside ↦ h.texts b.current [] inside
  | inr past ↦ subst IsText (sym (get_or_past b.texts b.current [] past)) refl
]

-- the pattern of a buffer is one
pub pattern_holds : (b : BufferState) (p : List ℕ) → HoldsTexts b → b.pattern ≡ Some p → IsPattern p
pattern_holds b p h is =
    let told : IfSome (Some p) (λ q. IsText q × IsPattern q) = subst (λ o. IfSome o (λ q. IsText q × IsPattern q)) is h.pattern in
    told.1

pub first_holds : AllHoldTexts first_state
first_holds = All-cons HoldsTexts (fresh []) [] (holds_fresh [] refl) (All-nil HoldsTexts)
