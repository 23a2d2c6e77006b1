-- A text that arrives in parts, or none.
use Rattle.std.proofs.Common.{◌≡◌, ℕ, List, ◌++◌, Option, None, Some, refl, sym, ◌∙◌, subst}
use Rattle.std.specs.Prelude.{IfSome, MatchOption}
use Rattle.rope_search_texts.specs.declared.arriving.ArrivingText.{ArrivingText}
use Rattle.rope_search_texts.specs.Arriving.{ArrivesMoreWithin, ArrivesWithin, refusal_so_far}
use Rattle.rope_search.specs.Session.{LimitedSession}
use Rattle.rope_search.specs.declared.commands.CommandOf.TheVariants.{Text as SetText}
use Rattle.rope_search_c.specs.Calls.{DoesOrder, status_of}
use Rattle.rope_search_c.specs.TextParts.{AppendsPart, EndsText, HasArrived, with_none_arriving}
use Rattle.rope_search_c.specs.declared.counting.CountingSession.{CountingSession}

some_is : (o : Option ArrivingText) (text : ArrivingText) → o ≡ Some text → o ≡ None → ⊥
some_is o text is none = let e = sym is ∙ none in absurd cc

-- a part where no text arrives
pub appends_none : (old : CountingSession) (part : List ℕ) → old.arriving ≡ None → AppendsPart old part 1 old
appends_none old part none = record {
  arriving = λ bytes had. absurd (subst (λ (o : Option ArrivingText). MatchOption o ⊥ (λ text. ArrivesWithin old.session.limit text bytes)) none had);
  told = subst (λ (o : Option ArrivingText). IfSome o (λ text. 1 ≡ status_of (refusal_so_far text))) (sym none) tt;
  none = (λ e. e, λ e. e);
  nothing = λ e. refl;
  session = refl;
  lines = refl;
}

-- and where one does
pub appends_some : (old new : CountingSession) (part : List ℕ) (status : ℕ) (text text' : ArrivingText) → old.arriving ≡ Some text → new.arriving ≡ Some text' → new.session ≡ old.session
    → new.lines ≡ old.lines → ArrivesMoreWithin old.session.limit text text' part → status ≡ status_of (refusal_so_far text') → AppendsPart old part status new
appends_some old new part status text text' was is session lines more told = record {
  arriving = λ bytes had.
      let before : ArrivesWithin old.session.limit text bytes = subst (λ (o : Option ArrivingText). MatchOption o ⊥ (λ t. ArrivesWithin old.session.limit t bytes)) was had in
      subst (λ (o : Option ArrivingText). MatchOption o ⊥ (λ t. ArrivesWithin new.session.limit t (bytes ++ part))) (sym is)
      (subst (λ (s : LimitedSession). ArrivesWithin s.limit text' (bytes ++ part)) (sym session) (more bytes before));
  told = subst (λ (o : Option ArrivingText). IfSome o (λ t. status ≡ status_of (refusal_so_far t))) (sym is) told;
  none = (λ none. absurd (some_is old.arriving text was none), λ none. absurd (some_is new.arriving text' is none));
  nothing = λ none. absurd (some_is old.arriving text was none);
  session = session;
  lines = lines;
}

-- the end where none does
pub ends_none : (old new : CountingSession) (status : ℕ) → old.arriving ≡ None → status ≡ 1 → new ≡ old → EndsText old status new
ends_none old new status none told same =
    subst (λ (o : Option ArrivingText). MatchOption o ((status ≡ 1) × (new ≡ old))
    (λ text. (bytes : List ℕ) → ArrivesWithin old.session.limit text bytes → DoesOrder (with_none_arriving old) (SetText bytes) status new)) (sym none) (told, same)

-- and where one does
pub ends_some : (old new : CountingSession) (status : ℕ) (text : ArrivingText) → old.arriving ≡ Some text
    → ((bytes : List ℕ) → ArrivesWithin old.session.limit text bytes → DoesOrder (with_none_arriving old) (SetText bytes) status new) → EndsText old status new
ends_some old new status text was does =
    subst (λ (o : Option ArrivingText). MatchOption o ((status ≡ 1) × (new ≡ old))
    (λ text. (bytes : List ℕ) → ArrivesWithin old.session.limit text bytes → DoesOrder (with_none_arriving old) (SetText bytes) status new)) (sym was) does
