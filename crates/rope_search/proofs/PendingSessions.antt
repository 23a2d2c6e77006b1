-- A session whose chosen buffer has a pending pattern.
use Rattle.std.proofs.Common.{◌≡◌, ℕ, ◌+◌, ◌<◌, ◌≤◌, ◌↔◌, ◌⊎◌, inl, inr, arith, chars, IsUtf8, List, [], Bool, true, false, length, map, refl, sym, ap, ◌∙◌, subst, slice_index_or, slice_set}
use Rattle.std.specs.Prelude.{Option, None, Some, Result, Ok, Err, OnOk, OnErr, IfOk, IfErr, IfSome}
use Rattle.std.proofs.lemmas.List.{map-set, get_or-map, set-get_or}
use Rattle.rope_search_io.specs.declared.faults.Fault.{Fault}
use Rattle.rope_search_io.specs.declared.faults.Fault.TheVariants.{Limit, Memory, Nothing, Pattern}
use Rattle.rope_search_reports.specs.Laws.{IsOneOfThree}
use Rattle.rope_search_reports.specs.Pattern.{IsPattern, IsTooHeavy, SpellsNone, pattern_limit}
use Rattle.rope_search_reports.specs.Text.{IsText}
use Rattle.rope_search.specs.Laws.{HoldsTexts}
use Rattle.rope_search.specs.Order.{SetPattern}
use Rattle.rope_search.specs.Pending.{Advances, Begins, StateAdvances, patterned}
use Rattle.rope_search.specs.Session.{BufferState, LimitedBuffer, LimitedSession, PendingPattern, chosen_buffer, chosen_in, with_chosen, with_pattern}
use Rattle.rope_search.specs.Step.{Accepts, IsFirstRefusal}
use Rattle.rope_search.specs.TextsKept.{ChangesChosen}
use Rattle.rope_search.proofs.ChangedLemmas.{told_with}
use Rattle.rope_search.proofs.HoldLemmas.{holds_pattern}
use Rattle.rope_search.proofs.KeptLemmas.{chosen-there, keeps}
use Rattle.rope_search.proofs.RefusalLaws.{accepted_pattern, refused_limit, refused_pattern}
use Rattle.rope_search.proofs.SessionLemmas.{Chosen, Chosen-set, state_with}

-- ---- the chosen buffer in the list of all

-- one with the same texts and the same pattern in its place leaves the session's state
pub still_state : (items : List LimitedBuffer) (k limit : ℕ) (old new : LimitedBuffer) (s : LimitedSession) → Chosen items k limit old s → new.state ≡ old.state
    → state_with items k new ≡ s.state
still_state items k limit old new s c same =
    let state : LimitedBuffer → BufferState = λ b. b.state in
    let states = map state items in
    let there : old.state ≡ slice_index_or states k old.state = sym (get_or-map state items k old old.state c.inside ∙ ap state (sym c.is)) in
    let whole : map state (slice_set items k new) ≡ states =
    map-set state items k new ∙ ap (slice_set states k) (same ∙ there) ∙ set-get_or states k old.state in
    ap (λ (bs : List BufferState). record { buffers = bs; chosen = k }) whole ∙ ap (λ (t : LimitedSession). t.state) c.seen

-- where a call is done, it changes the chosen buffer as told
pub done_told : (K : LimitedBuffer → LimitedBuffer → Type 0) (items : List LimitedBuffer) (k limit : ℕ) (old new : LimitedBuffer) (s t : LimitedSession) → Chosen items k limit old s
    → (result : Result (Unit {0}) Fault) → t.buffers ≡ slice_set items k new → t.state ≡ state_with items k new → t.changed ≡ told_with items k new
    → OnOk result (K old new) → OnOk result (ChangesChosen K s t)
done_told K items k limit old new s t c (Ok tt) put state rows told = keeps K items k limit old new s t c put state rows told
done_told K items k limit old new s t c (Err fault) put state rows told = tt

pub answer_told : (K : Bool → LimitedBuffer → LimitedBuffer → Type 0) (items : List LimitedBuffer) (k limit : ℕ) (old new : LimitedBuffer) (s t : LimitedSession) → Chosen items k limit old s
    → (result : Result Bool Fault) → t.buffers ≡ slice_set items k new → t.state ≡ state_with items k new → t.changed ≡ told_with items k new
    → IfOk result (λ b. K b old new) → IfOk result (λ b. ChangesChosen (K b) s t)
answer_told K items k limit old new s t c (Ok b) put state rows told = keeps (K b) items k limit old new s t c put state rows told
answer_told K items k limit old new s t c (Err fault) put state rows told = tt

-- ---- a pattern that is begun

pub begun_state : (pattern : List ℕ) (old new : LimitedBuffer) (result : Result (Unit {0}) Fault) → OnOk result (Begins pattern old new) → OnErr result (new ≡ old) → new.state ≡ old.state
begun_state pattern old new (Ok tt) told same = ap (λ (b : LimitedBuffer). b.state) told
begun_state pattern old new (Err fault) told same = ap (λ (b : LimitedBuffer). b.state) same

pub begun_limit : (pattern : List ℕ) (old new : LimitedBuffer) (result : Result (Unit {0}) Fault) → OnOk result (Begins pattern old new) → OnErr result (new ≡ old) → new.limit ≡ old.limit
begun_limit pattern old new (Ok tt) told same = ap (λ (b : LimitedBuffer). b.limit) told
begun_limit pattern old new (Err fault) told same = ap (λ (b : LimitedBuffer). b.limit) same

-- ---- a slice

-- a pattern is pending where a slice is done
some-pending : (old : LimitedBuffer) (b : Bool) (result : Result Bool Fault) → result ≡ Ok b → ((result ≡ Err Nothing) ↔ (old.pending ≡ None)) → old.pending ≡ None → ⊥
some-pending old b result is nothing none = let e = nothing.1 none in absurd cc

-- the buffer once all lines are done
done_state : (old new : LimitedBuffer) (pending : Option PendingPattern) → (pending ≡ None → ⊥) → IfSome pending (λ p. new ≡ patterned old p.pattern)
    → (p : PendingPattern) × (pending ≡ Some p) × (new ≡ patterned old p.pattern)
done_state old new None some told = absurd (some refl)
done_state old new (Some p) some told = (p, refl, told)

-- the buffer while some are left
left_state : (old new : LimitedBuffer) (lines : ℕ) (pending : Option PendingPattern) → (pending ≡ None → ⊥)
    → IfSome pending (λ p. new ≡ record old { pending = Some (record p { done = p.done + lines }) }) → (new.state ≡ old.state) × (new.limit ≡ old.limit)
left_state old new lines None some told = absurd (some refl)
left_state old new lines (Some p) some told = (ap (λ (b : LimitedBuffer). b.state) told, ap (λ (b : LimitedBuffer). b.limit) told)

pub advanced_limit : (lines : ℕ) (old new : LimitedBuffer) (result : Result Bool Fault) → IfOk result (λ b. Advances lines b old new) → ((result ≡ Err Nothing) ↔ (old.pending ≡ None))
    → OnErr result (new ≡ old) → new.limit ≡ old.limit
advanced_limit lines old new (Ok true) told nothing same =
    let done = done_state old new old.pending (some-pending old true (Ok true) refl nothing) told.1 in ap (λ (b : LimitedBuffer). b.limit) done.2
advanced_limit lines old new (Ok false) told nothing same = (left_state old new lines old.pending (some-pending old false (Ok false) refl nothing) told.1).1
advanced_limit lines old new (Err fault) told nothing same = ap (λ (b : LimitedBuffer). b.limit) same

pub advanced_holds : (lines : ℕ) (old new : LimitedBuffer) (result : Result Bool Fault) → HoldsTexts old.state → IfOk result (λ b. Advances lines b old new)
    → IfSome old.pending (λ p. IsText p.pattern × IsPattern p.pattern) → ((result ≡ Err Nothing) ↔ (old.pending ≡ None)) → OnErr result (new ≡ old) → HoldsTexts new.state
advanced_holds lines old new (Ok true) holds told one nothing same =
    let done = done_state old new old.pending (some-pending old true (Ok true) refl nothing) told.1 in
    let is = subst (λ o. IfSome o (λ (p : PendingPattern). IsText p.pattern × IsPattern p.pattern)) done.1 one in
    holds_pattern old.state new.state (done.0).pattern holds is.0 is.1 (ap (λ (b : LimitedBuffer). b.state) done.2)
advanced_holds lines old new (Ok false) holds told one nothing same =
    subst HoldsTexts (sym (left_state old new lines old.pending (some-pending old false (Ok false) refl nothing) told.1).0) holds
advanced_holds lines old new (Err fault) holds told one nothing same = subst (λ (b : LimitedBuffer). HoldsTexts b.state) (sym same) holds

pub advanced_state : (lines : ℕ) (items : List LimitedBuffer) (k limit : ℕ) (old new : LimitedBuffer) (s : LimitedSession) → Chosen items k limit old s
    → (result : Result Bool Fault) → IfOk result (λ b. Advances lines b old new) → ((result ≡ Err Nothing) ↔ (old.pending ≡ None))
    → IfOk result (λ b. StateAdvances s.state (chosen_in s) b (state_with items k new))
advanced_state lines items k limit old new s c (Ok true) told nothing =
    let done = done_state old new old.pending (some-pending old true (Ok true) refl nothing) told.1 in
    let there : (chosen_in s).pending ≡ Some done.0 = ap (λ (b : LimitedBuffer). b.pending) (chosen-there items k limit old s c) ∙ done.1 in
    subst (λ o. IfSome o (λ (p : PendingPattern). state_with items k new ≡ with_chosen s.state (with_pattern (chosen_buffer s.state) (Some p.pattern)))) (sym there)
    (Chosen-set items k limit old new s (λ b. with_pattern b (Some (done.0).pattern)) c (ap (λ (b : LimitedBuffer). b.state) done.2))
advanced_state lines items k limit old new s c (Ok false) told nothing =
    still_state items k limit old new s c (left_state old new lines old.pending (some-pending old false (Ok false) refl nothing) told.1).0
advanced_state lines items k limit old new s c (Err fault) told nothing = tt

-- ---- why no pattern is begun

pub begin_refused : IsOneOfThree → (bytes text : List ℕ) (s : LimitedSession) (result : Result (Unit {0}) Fault) → text ≡ bytes → IsUtf8 bytes
    → IfErr result (λ fault. (fault ≡ Limit) ⊎ ((fault ≡ Pattern) ⊎ (fault ≡ Memory)))
    → (result ≡ Err Limit → (pattern_limit < length text) ⊎ IsTooHeavy (chars text)) → (result ≡ Err Pattern → (length text ≤ pattern_limit) × SpellsNone (chars text))
    → IfErr result (λ fault. (fault ≡ Memory) ⊎ IsFirstRefusal s.limit s.state (SetPattern bytes) fault)
begin_refused apart bytes text s (Ok tt) same utf8 fault much none = tt
begin_refused apart bytes text s (Err f) same utf8 (inl e) much none =
    inr (subst (λ g. IsFirstRefusal s.limit s.state (SetPattern bytes) g) (sym e)
    (refused_limit apart s.limit s.state bytes utf8 (subst (λ bs. (pattern_limit < length bs) ⊎ IsTooHeavy (chars bs)) same (much (ap Err e)))))
begin_refused apart bytes text s (Err f) same utf8 (inr (inl e)) much none =
    let why = subst (λ bs. (length bs ≤ pattern_limit) × SpellsNone (chars bs)) same (none (ap Err e)) in
    inr (subst (λ g. IsFirstRefusal s.limit s.state (SetPattern bytes) g) (sym e) (refused_pattern s.limit s.state bytes utf8 why.0 why.1))
begin_refused apart bytes text s (Err f) same utf8 (inr (inr e)) much none = inl e

pub begin_accepted : IsOneOfThree → (bytes text : List ℕ) (s : LimitedSession) (result : Result (Unit {0}) Fault) → text ≡ bytes → IsUtf8 bytes
    → (pattern_limit < length text → result ≡ Err Limit) → OnOk result (IsPattern (chars text)) → OnOk result (Accepts s.limit s.state (SetPattern bytes))
begin_accepted apart bytes text s (Ok tt) same utf8 long is =
    let fits : pattern_limit < length text → ⊥ = λ over. absurd (let e = long over in cc) in
    let short : length text ≤ pattern_limit = omega arith in
    accepted_pattern apart s.limit s.state bytes utf8 (omega (arith, short, ap length same)) (subst (λ bs. IsPattern (chars bs)) same is)
begin_accepted apart bytes text s (Err f) same utf8 long is = tt
