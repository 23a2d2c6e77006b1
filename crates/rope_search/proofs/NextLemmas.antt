-- The answer of a session to a search for a match.
use Rattle.std.proofs.Common.{◌≡◌, ◌≢◌, ℕ, ◌⊎◌, inl, inr, List, sym, subst, ◌∙◌, refl, Ok, Err}
use Rattle.std.specs.Prelude.{Option, None, Some}
use Rattle.rope_search_io.specs.declared.faults.Fault.{Fault}
use Rattle.rope_search_io.specs.declared.faults.Fault.TheVariants.{Nothing, Range, Memory}
use Rattle.rope_search_reports.specs.declared.positions.Position.{Position}
use Rattle.rope_search_reports.specs.Position.{IsNowhere}
use Rattle.rope_search.specs.Order.{FindNext}
use Rattle.rope_search.specs.Session.{BufferState, State, LimitedBuffer, LimitedSession, current_text, chosen_buffer}
use Rattle.rope_search.specs.Finding.{FindsFromPosition, FindsIn, TellsIn, TellsPositions, reply_for}
use Rattle.rope_search.specs.Step.{Step}
use Rattle.rope_search.proofs.SessionLemmas.{Chosen, Chosen-state, Chosen-kept, state_with}
use Rattle.rope_search.proofs.StepLaws.{accepted_next, refused_next, refused_astray}

-- the match found in the buffer's text for its pattern is the next one of the buffer
in_buffer : (b : BufferState) (p : List ℕ) (from : Position) (found : Option (ℕ × ℕ)) → b.pattern ≡ Some p → FindsIn (current_text b) p from found → FindsFromPosition b from found
in_buffer b p from found is finds = record { pattern = p; place = finds.place; is_pattern = is; starts = finds.starts; finds = finds.finds }

pub told_in : (b : BufferState) (p : List ℕ) (from : Position) (found : Option (Position × Position)) → b.pattern ≡ Some p → TellsIn (current_text b) p from found → TellsPositions b from found
told_in b p from None is tells = in_buffer b p from None is tells
told_in b p from (Some told) is tells = (tells.0, in_buffer b p from (Some tells.0) is tells.1, tells.2)

has_one : (pattern : Option (List ℕ)) (p : List ℕ) → pattern ≡ Some p → pattern ≢ None
has_one pattern p is none = let e : Some p ≡ None = sym is ∙ none in cc

next_of : (limit : ℕ) (s : State) (from : Position) (found : Option (Position × Position)) → TellsPositions (chosen_buffer s) from found → Step limit s (FindNext from) (Ok (reply_for found)) s
next_of limit s from None tells = (accepted_next limit s from tells.place (has_one _ tells.pattern tells.is_pattern) tells.starts, (tells, refl))
next_of limit s from (Some told) tells = (accepted_next limit s from tells.1.place (has_one _ tells.1.pattern tells.1.is_pattern) tells.1.starts, (tells, refl))

pub Step-next : (items : List LimitedBuffer) (k limit : ℕ) (old new : LimitedBuffer) (s : LimitedSession) (from : Position) (found : Option (Position × Position)) → Chosen items k limit old s
    → new ≡ old → TellsPositions old.state from found → Step s.limit s.state (FindNext from) (Ok (reply_for found)) (state_with items k new)
Step-next items k limit old new s from found c same tells =
    let told : TellsPositions (chosen_buffer s.state) from found = subst (λ b. TellsPositions b from found) (sym (Chosen-state items k limit old s c)) tells in
    subst (Step s.limit s.state (FindNext from) (Ok (reply_for found))) (sym (Chosen-kept items k limit old new s c same)) (next_of s.limit s.state from found told)

pub Step-next_err : (items : List LimitedBuffer) (k limit : ℕ) (old new : LimitedBuffer) (s : LimitedSession) (from : Position) (fault : Fault) → Chosen items k limit old s
    → new ≡ old → (fault ≡ Nothing) ⊎ ((fault ≡ Range) ⊎ (fault ≡ Memory)) → (fault ≡ Nothing → old.state.pattern ≡ None)
    → (fault ≡ Range → (old.state.pattern ≡ None → ⊥) × IsNowhere (current_text old.state) (from.line, from.column))
    → Step s.limit s.state (FindNext from) (Err fault) (state_with items k new)
Step-next_err items k limit old new s from fault c same which none astray =
    subst (Step s.limit s.state (FindNext from) (Err fault)) (sym (Chosen-kept items k limit old new s c same)) (told which)
  where
    here : old.state ≡ chosen_buffer s.state
    here = sym (Chosen-state items k limit old s c)

    told : (fault ≡ Nothing) ⊎ ((fault ≡ Range) ⊎ (fault ≡ Memory)) → Step s.limit s.state (FindNext from) (Err fault) s.state
    told (inl e) =
        let no_pattern = subst (λ (b : BufferState). b.pattern ≡ None) here (none e) in
        subst (λ f. Step s.limit s.state (FindNext from) (Err f) s.state) (sym e) (refused_next s.limit s.state from no_pattern, refl)
    told (inr (inl e)) =
        let both = subst (λ (b : BufferState). (b.pattern ≡ None → ⊥) × IsNowhere (current_text b) (from.line, from.column)) here (astray e) in
        subst (λ f. Step s.limit s.state (FindNext from) (Err f) s.state) (sym e) (refused_astray s.limit s.state from both.0 both.1, refl)
    told (inr (inr e)) = subst (λ f. Step s.limit s.state (FindNext from) (Err f) s.state) (sym e) (tt, refl)
