-- Texts and patterns of a session are lists of scalar values, so its matches are at boundaries; and
-- its report is that of its pattern set again.
use Rattle.std.proofs.Common.{◌≡◌, ℕ, ◌+◌, ◌<◌, ◌≤◌, ◌⊎◌, List, [], ◌∷◌, ◌++◌, length, take, slice_index_or, refl, sym, ap, ◌∙◌, subst, All, IsUtf8, arith, inl, inr}
use Rattle.std.specs.Prelude.{Option, None, Some, MatchOption, Ok, Err, chars}
use Rattle.std.proofs.lemmas.Bool.{cases_lt, and_parts, and_from}
use Rattle.std.proofs.lemmas.List.{set-get_or}
use Rattle.std.proofs.lemmas.List.Elements.{All-nil, All-cons, All-append, All-take, All-set}
use Rattle.rope_search_io.specs.declared.faults.Fault.TheVariants.{Pattern, Limit, Memory}
use Rattle.rope_search.specs.declared.commands.Reply.{Reply}
use Rattle.rope_search.specs.declared.commands.Reply.TheVariants.{Done, Number, Found, NoMatch, List as Listing, Print}
use Rattle.rope_search_reports.specs.Text.{IsText}
use Rattle.rope_search_reports.specs.Pattern.{IsPattern, IsTooHeavy, SpellsNone, pattern_limit}
use Rattle.rope_search_reports.specs.declared.positions.Position.{Position}
use Rattle.rope_search_reports.specs.Position.{StandsAtBoundaries}
use Rattle.rope_search_reports.specs.Report.{IsReport}
use Rattle.rope_search_reports.specs.Laws.{HasOneReport, IsOneOfThree, MatchesStandAtBoundaries, ReplacedIsText}
use Rattle.rope_search.specs.Order.{Order, SetText, EditText, UndoEdit, RedoEdit, PrintText, ForkBuffer, SetPattern, DropPattern, ListMatches, FindNext, ReplaceAll, UseBuffer}
use Rattle.rope_search.specs.Places.{IsEdit}
use Rattle.rope_search.specs.Replacing.{IsReplacement, text_with}
use Rattle.rope_search.specs.Session.{BufferState, State, first_state, fresh, current_text, chosen_buffer, with_pattern, with_chosen}
use Rattle.rope_search.specs.Step.{Answer, Accepts, Does, Step}
use Rattle.rope_search.specs.Answers.{Run}
use Rattle.rope_search.specs.Laws.{HoldsTexts, AllHoldTexts, Known, StepsHoldTexts, KeptIsAnew, PatternsAreTaken, ListsBoundaries}
use Rattle.rope_search.proofs.HistoryLaws.{same_report}
use Rattle.rope_search.proofs.HoldLaws.{one_text, holds_fresh, chosen_holds, text_holds, pattern_holds, first_holds}
use Rattle.rope_search.proofs.RefusalLaws.{accepted_pattern}
use Rattle.rope_search.proofs.StepLaws.{Encodes-chars}

-- ---- scalar values

scalars_joined : (s t : List ℕ) → IsText s → IsText t → IsText (s ++ t)
scalars_joined [] t one other = other
scalars_joined (c ∷ cs) t one other =
    let both = and_parts _ _ one in
    and_from _ _ both.0 (scalars_joined cs t both.1 other)

scalars_parted : (s t : List ℕ) → IsText (s ++ t) → IsText s × IsText t
scalars_parted [] t h = (refl, h)
scalars_parted (c ∷ cs) t h =
    let both = and_parts _ _ h in
    let later = scalars_parted cs t both.1 in
    (and_from _ _ both.0 later.0, later.1)

-- ---- a buffer whose text was changed holds texts

pub holds_edit : (old new : BufferState) (from to : Position) (inserted : List ℕ) → HoldsTexts old → IsText inserted
    → IsEdit old from to inserted new → HoldsTexts new
holds_edit old new from to inserted h is edit =
    let whole = subst IsText edit.between.parts (text_holds old h) in
    let parted = scalars_parted (edit.before ++ edit.part) edit.behind whole in
    let front = scalars_joined edit.before inserted (scalars_parted edit.before edit.part parted.0).0 is in
    let text = scalars_joined (edit.before ++ inserted) edit.behind front parted.1 in
    let texts = All-append IsText (take (old.current + 1) old.texts) ((edit.before ++ inserted ++ edit.behind) ∷ []) (All-take IsText (old.current + 1) old.texts h.texts) (one_text _ text) in
    subst HoldsTexts (sym edit.changed) (record { texts = texts; pattern = h.pattern })

pub holds_replaced : ReplacedIsText → (old new : BufferState) (template : List ℕ) (count : ℕ) → HoldsTexts old → IsText template
    → IsReplacement old template count new → HoldsTexts new
holds_replaced known old new template count h is change =
    let text = known (current_text old) change.are.pattern template change.matches (text_holds old h) is change.are.are in
    let whole = text_with old template change.matches in
    let texts = All-append IsText (take (old.current + 1) old.texts) (whole ∷ []) (All-take IsText (old.current + 1) old.texts h.texts) (one_text whole text) in
    subst HoldsTexts (sym change.changed) (record { texts = texts; pattern = h.pattern })

-- ---- commands keep this

set_chosen : (s t : State) (b : BufferState) → AllHoldTexts s → HoldsTexts b → t ≡ with_chosen s b → AllHoldTexts t
set_chosen s t b all one is = subst AllHoldTexts (sym is) (All-set HoldsTexts s.buffers s.chosen b one all)

unchanged : (s t : State) → AllHoldTexts s → t ≡ s → AllHoldTexts t
unchanged s t all is = subst AllHoldTexts (sym is) all

does_hold : Known → (limit : ℕ) (s t : State) (o : Order) (r : Reply) → Accepts limit s o → Does s o r t → AllHoldTexts s → AllHoldTexts t
does_hold known limit s t (SetText payload) Done accepts does all =
    set_chosen s t _ all (record { texts = one_text does.0 does.1.scalars; pattern = (chosen_holds s all).pattern }) does.2
does_hold known limit s t (EditText from to payload) Done accepts does all =
    set_chosen s t does.1 all (holds_edit (chosen_buffer s) does.1 from to does.0 (chosen_holds s all) does.2.scalars does.3) does.4
does_hold known limit s t UndoEdit Done accepts does all = let h = chosen_holds s all in set_chosen s t _ all (record { texts = h.texts; pattern = h.pattern }) does
does_hold known limit s t RedoEdit Done accepts does all = let h = chosen_holds s all in set_chosen s t _ all (record { texts = h.texts; pattern = h.pattern }) does
does_hold known limit s t PrintText Print accepts does all = unchanged s t all does
does_hold known limit s t ForkBuffer (Number k) accepts does all =
    let one = holds_fresh (current_text (chosen_buffer s)) (text_holds (chosen_buffer s) (chosen_holds s all)) in
    let others = All-cons HoldsTexts (fresh (current_text (chosen_buffer s))) [] one (All-nil HoldsTexts) in
    subst AllHoldTexts (sym does.1) (All-append HoldsTexts s.buffers (fresh (current_text (chosen_buffer s)) ∷ []) all others)
does_hold known limit s t (SetPattern payload) Done accepts does all =
    let h = chosen_holds s all in
    let chars_is = Encodes-chars does.0 payload does.1 in
    let few = within (length payload) (λ high. accepts Limit (inl high)) in
    let is = known_pattern (chars payload) (known.told (chars payload)) (λ heavy. accepts Limit (inr heavy)) (λ none. accepts Pattern (few, none)) in
    set_chosen s t _ all (record { texts = h.texts; pattern = (does.1.scalars, subst IsPattern (sym chars_is) is) }) does.2
  where
    within : (n : ℕ) → (pattern_limit < n → ⊥) → n ≤ pattern_limit
    within n low = elim (cases_lt pattern_limit n) [ inl high ↦ absurd (low high) | inr not_high ↦ omega (arith, not_high) ]

    known_pattern : (text : List ℕ) → IsPattern text ⊎ (IsTooHeavy text ⊎ SpellsNone text) → (IsTooHeavy text → ⊥) → (SpellsNone text → ⊥) → IsPattern text
    known_pattern text (inl is) light some = is
    known_pattern text (inr (inl heavy)) light some = absurd (light heavy)
    known_pattern text (inr (inr none)) light some = absurd (some none)
does_hold known limit s t DropPattern Done accepts does all = let h = chosen_holds s all in set_chosen s t _ all (record { texts = h.texts; pattern = tt }) does
does_hold known limit s t ListMatches Listing accepts does all = unchanged s t all does
does_hold known limit s t (FindNext from) (Found start end) accepts does all = unchanged s t all does.1
does_hold known limit s t (FindNext from) NoMatch accepts does all = unchanged s t all does.1
does_hold known limit s t (ReplaceAll payload) (Number k) accepts does all =
    set_chosen s t does.1 all (holds_replaced known.replaced (chosen_buffer s) does.1 does.0 k (chosen_holds s all) does.2.scalars does.3) does.4
does_hold known limit s t (UseBuffer k) Done accepts does all = subst AllHoldTexts (sym does) all
does_hold known limit s t o r accepts does all = absurd does

pub step_holds : Known → (limit : ℕ) (s t : State) (o : Order) (a : Answer) → Step limit s o a t → AllHoldTexts s → AllHoldTexts t
step_holds known limit s t o (Ok r) step all = does_hold known limit s t o r step.0 step.1 all
step_holds known limit s t o (Err Memory) step all = unchanged s t all step.1
step_holds known limit s t o (Err fault) step all = unchanged s t all step.1

pub run_holds : Known → (limit : ℕ) (s t : State) (os : List Order) (out : List ℕ) (cost : ℕ) → Run limit s os out cost t → AllHoldTexts s → AllHoldTexts t
run_holds known limit s t [] out cost run all = unchanged s t all run.2
run_holds known limit s t (o ∷ os) out cost run all = run_holds known limit run.new t os run.later run.later_cost run.others (step_holds known limit s run.new o run.answer run.step all)

-- so it holds of all sessions that commands lead to
pub holds_always : Known → (limit : ℕ) (s : State) (os : List Order) (out : List ℕ) (cost : ℕ) → Run limit first_state os out cost s → AllHoldTexts s
holds_always known limit s os out cost run = run_holds known limit first_state s os out cost run first_holds

pub steps_hold : Known → StepsHoldTexts
steps_hold known = record { first = first_holds; step = λ limit old new order answer all step. step_holds known limit old new order answer step all }

-- ---- where matches are

pub boundaries_listed : Known → MatchesStandAtBoundaries → ListsBoundaries
boundaries_listed known law limit orders out cost session rows line run report =
    let buffer = chosen_buffer session in
    let h = chosen_holds session (holds_always known limit session orders out cost run) in
    stand law (current_text buffer) buffer.pattern rows line (text_holds buffer h) report
  where
    stand : MatchesStandAtBoundaries → (text : List ℕ) (p : Option (List ℕ)) (rows : List (List (ℕ × ℕ))) (line : ℕ) → IsText text
        → MatchOption p (rows ≡ []) (λ q. IsReport text q rows) → All (StandsAtBoundaries text line) (slice_index_or rows line [])
    stand law text None rows line scalars is = subst (λ rs. All (StandsAtBoundaries text line) (slice_index_or rs line [])) (sym is) (All-nil (StandsAtBoundaries text line))
    stand law text (Some q) rows line scalars is = law text q rows line scalars is

-- ---- a pattern set again

pub kept_anew : HasOneReport → KeptIsAnew
kept_anew one limit old new pattern payload Done rows anew had spelled step kept made =
    let buffer = chosen_buffer old in
    let same : step.1.0 ≡ pattern = Encodes-chars step.1.0 payload step.1.1 ∙ sym (Encodes-chars pattern payload spelled) in
    let again : with_pattern buffer (Some step.1.0) ≡ buffer = ap (λ p. with_pattern buffer (Some p)) same ∙ ap (with_pattern buffer) (sym had) in
    let stays : new ≡ old = step.1.2 ∙ ap (with_chosen old) again ∙ ap (λ bs. record { buffers = bs; chosen = old.chosen }) (set-get_or old.buffers old.chosen (fresh [])) in
    same_report one buffer (chosen_buffer new) rows anew (ap (λ s. current_text (chosen_buffer s)) (sym stays)) (ap (λ (s : State). (chosen_buffer s).pattern) (sym stays)) kept made
kept_anew one limit old new pattern payload other rows anew had spelled step kept made = absurd step.1

-- a pattern that spells a tree is within the limit on bytes
pub patterns_taken : IsOneOfThree → PatternsAreTaken
patterns_taken apart limit session pattern payload all had spelled =
    let is = pattern_holds (chosen_buffer session) pattern (chosen_holds session all) had in
    let same : pattern ≡ chars payload = Encodes-chars pattern payload spelled in
    let utf8 : IsUtf8 payload = (pattern, (spelled.scalars, spelled.spelled)) in
    let short : length payload ≤ pattern_limit = subst (λ bytes. length bytes ≤ pattern_limit) spelled.spelled is.1.spells.size in
    accepted_pattern apart limit session payload utf8 short (subst IsPattern same is)
