-- Steps of a searcher, from the results of a finder.
use Rattle.std.proofs.Common.{◌≡◌, ◌≢◌, ℕ, ◌+◌, ◌-◌, ◌≤◌, ◌<◌, Bool, true, false, ◌==◌, Option, Some, None, Result, Ok, Err, refl, sym, ap, subst, ◌∙◌, arith}
use Rattle.std.proofs.lemmas.Bool.{eq-eqb, eqb-true}
use Rattle.std.specs.Iterator.{size}
use Rattle.rx_util.specs.declared.search.MatchError.{MatchError}
use Rattle.rx_util.specs.Search.{HalfFound}
use Rattle.rx_input.specs.Inputs.{InputState}
use Rattle.rx_input.specs.Searchers.{SearcherState, Finder, IsSetTo, HasPassedMatch, EndsInside, StaysInside, TellsNext, at_once, further, Advances, IsAtLast, end_of_half, is_last_end, items_at_most, half_matches_left}

module _ {F A : Type 0} (tells : Finder F A) (end : A → ℕ) (passes : Option ℕ → A → Type 0) (p q : F) (old new : SearcherState) where
  -- ---- by one call
  pub err_told : (e : MatchError) (j : InputState) → tells p q old.input (Err e) j → new ≡ record old { input = j } → Advances tells end passes p q old (Err e) new
  err_told e j told is = record { left = j; next = at_once told (λ a same. absurd (cc same)); goes_on = is }

  pub none_told : (o : Option A) (j : InputState) → o ≡ None → tells p q old.input (Ok o) j → new ≡ record old { input = j } → Advances tells end passes p q old (Ok None) new
  none_told o j none told is = record { left = j; next = at_once (subst (λ x. tells p q old.input (Ok x) j) none told) (λ a same. absurd (cc same)); goes_on = is }

  pub found_told : (o : Option A) (a : A) (j : InputState) → o ≡ Some a → tells p q old.input (Ok o) j → (passes old.last_match_end a → ⊥) → HasPassedMatch j (end a) new
      → Advances tells end passes p q old (Ok (Some a)) new
  found_told o a j some told not passed = record {
    left = j;
    next = at_once (subst (λ x. tells p q old.input (Ok x) j) some told) (λ b same pass. let is : b ≡ a = cc (sym same) in not (subst (λ x. passes old.last_match_end x) is pass));
    goes_on = passed;
  }

  -- ---- by a second one
  module _ (m : F) (first : Option A) (b : A) (k l : InputState) (some : first ≡ Some b) (told : tells p m old.input (Ok first) k) (pass : passes old.last_match_end b) (moved : IsSetTo k l (k.asked.span.start + 1)) where
    next_told : (r : Result (Option A) MatchError) (j : InputState) → tells m q l r j → TellsNext tells (passes old.last_match_end) p q old.input r j
    next_told r j second = further b m k l (subst (λ x. tells p m old.input (Ok x) k) some told) pass moved second

    pub err_further : (e : MatchError) (j : InputState) → tells m q l (Err e) j → new ≡ record old { input = j } → Advances tells end passes p q old (Err e) new
    err_further e j second is = record { left = j; next = next_told (Err e) j second; goes_on = is }

    pub none_further : (o : Option A) (j : InputState) → o ≡ None → tells m q l (Ok o) j → new ≡ record old { input = j } → Advances tells end passes p q old (Ok None) new
    none_further o j none second is = record { left = j; next = next_told (Ok None) j (subst (λ x. tells m q l (Ok x) j) none second); goes_on = is }

    pub found_further : (o : Option A) (a : A) (j : InputState) → o ≡ Some a → tells m q l (Ok o) j → HasPassedMatch j (end a) new → Advances tells end passes p q old (Ok (Some a)) new
    found_further o a j there second passed = record { left = j; next = next_told (Ok (Some a)) j (subst (λ x. tells m q l (Ok x) j) there second); goes_on = passed }

-- ---- the span's start

-- a match of a finder ends where the span may start
pub may_start : {F A : Type 0} (tells : Finder F A) (end : A → ℕ) (p q : F) (i j : InputState) (o : Option A) (a : A) → StaysInside tells end → tells p q i (Ok o) j → o ≡ Some a → EndsInside j (end a)
may_start tells end p q i j o a stays told some =
    let told' = subst (λ x. tells p q i (Ok x) j) some told in
    let ends = stays.inside p q i j a told' in
    let same = stays.same p q i j (Ok (Some a)) told' in
    record {
      behind_start = subst (λ x. x.span.start ≤ end a) (sym same) ends.behind_start;
      before_end = subst (λ x. end a ≤ x.span.end) (sym same) ends.before_end;
      fits = ends.fits;
    }

-- ---- the number of half matches

fewer_behind : (is_at_last : Bool) (start stop end : ℕ) → start ≤ end → end ≤ stop → (is_at_last ≡ true → start < end) → items_at_most false true (stop - end) < items_at_most false is_at_last (stop - start)
fewer_behind true start stop end on within beyond = omega (arith, beyond refl, within)
fewer_behind false start stop end on within beyond = omega (arith, on)

fewer_at_once : (last : Option ℕ) (start stop end : ℕ) → start ≤ end → end ≤ stop → (last ≡ Some end → ⊥) → items_at_most false true (stop - end) < items_at_most false (is_last_end last start) (stop - start)
fewer_at_once None start stop end on within apart = fewer_behind false start stop end on within (λ e. absurd (cc e))
fewer_at_once (Some k) start stop end on within apart = fewer_behind (k == start) start stop end on within (λ e.
    let here : k ≡ start = eqb-true k start e in
    let elsewhere : end ≢ k = λ same. apart (ap Some (sym same)) in
    omega (arith, on, here, elsewhere))

fewer_further : (is_at_last : Bool) (start stop end : ℕ) → start + 1 ≤ end → end ≤ stop → items_at_most false true (stop - end) < items_at_most false is_at_last (stop - start)
fewer_further is_at_last start stop end on within = fewer_behind is_at_last start stop end (omega (arith, on)) within (λ e. omega (arith, on))

last_end_here : (last : Option ℕ) (end start : ℕ) → last ≡ Some end → start ≡ end → is_last_end last start ≡ true
last_end_here last end start last_is here = ap (λ o. is_last_end o start) last_is ∙ eq-eqb end start (sym here)

module _ {F : Type 0} (tells : Finder F HalfFound) (p q : F) (old new : SearcherState) (a : HalfFound) (stays : StaysInside tells end_of_half) where
  -- what is left, from the span's start and end
  left_is : (left : InputState) → left.asked.span.end ≡ old.input.asked.span.end → HasPassedMatch left a.offset new
      → items_at_most false true (old.input.asked.span.end - a.offset) ≡ items_at_most false (is_last_end new.last_match_end new.input.asked.span.start) (new.input.asked.span.end - new.input.asked.span.start)
  left_is left same passed =
      let start : new.input.asked.span.start ≡ a.offset = ap (λ x. x.span.start) passed.0.asked_is in
      let end : new.input.asked.span.end ≡ old.input.asked.span.end = ap (λ x. x.span.end) passed.0.asked_is ∙ same in
      sym (ap (λ b. items_at_most false b (new.input.asked.span.end - new.input.asked.span.start)) (last_end_here new.last_match_end a.offset new.input.asked.span.start passed.1 start)
      ∙ ap (λ k. items_at_most false true (new.input.asked.span.end - k)) start ∙ ap (λ k. items_at_most false true (k - a.offset)) end)

  fewer_by : (left : InputState) → TellsNext tells (IsAtLast old.last_match_end) p q old.input (Ok (Some a)) left → HasPassedMatch left a.offset new
      → items_at_most false (is_last_end new.last_match_end new.input.asked.span.start) (new.input.asked.span.end - new.input.asked.span.start)
      < items_at_most false (is_last_end old.last_match_end old.input.asked.span.start) (old.input.asked.span.end - old.input.asked.span.start)
  fewer_by left (at_once told not) passed =
      let ends = stays.inside p q old.input left a told in
      let same = ap (λ x. x.span.end) (stays.same p q old.input left (Ok (Some a)) told) in
      subst (λ n. n < items_at_most false (is_last_end old.last_match_end old.input.asked.span.start) (old.input.asked.span.end - old.input.asked.span.start)) (left_is left same passed)
      (fewer_at_once old.last_match_end old.input.asked.span.start old.input.asked.span.end a.offset ends.behind_start ends.before_end (not a refl))
  fewer_by left (further b m k l first pass moved told) passed =
      let ends = stays.inside m q l left a told in
      let before = stays.same p m old.input k (Ok (Some b)) first in
      let start : l.asked.span.start ≡ old.input.asked.span.start + 1 = ap (λ x. x.span.start) moved.asked_is ∙ ap (λ x. x.span.start + 1) before in
      let end : l.asked.span.end ≡ old.input.asked.span.end = ap (λ x. x.span.end) moved.asked_is ∙ ap (λ x. x.span.end) before in
      let same : left.asked.span.end ≡ old.input.asked.span.end = ap (λ x. x.span.end) (stays.same m q l left (Ok (Some a)) told) ∙ end in
      subst (λ n. n < items_at_most false (is_last_end old.last_match_end old.input.asked.span.start) (old.input.asked.span.end - old.input.asked.span.start)) (left_is left same passed)
      (fewer_further (is_last_end old.last_match_end old.input.asked.span.start) old.input.asked.span.start old.input.asked.span.end a.offset (omega (arith, ends.behind_start, start)) (omega (arith, ends.before_end, end)))

  -- fewer are left after a half match
  pub half_fewer : Advances tells end_of_half IsAtLast p q old (Ok (Some a)) new → size (half_matches_left new false) < size (half_matches_left old false)
  half_fewer advances = fewer_by advances.left advances.next advances.goes_on

at_least_one : (is_at_last : Bool) (n : ℕ) → 0 < items_at_most false is_at_last n
at_least_one true n = omega arith
at_least_one false n = omega arith

-- some may be left unless it has ended
pub some_left : (old new : SearcherState) → size (half_matches_left new true) < size (half_matches_left old false)
some_left old new = at_least_one (is_last_end old.last_match_end old.input.asked.span.start) (old.input.asked.span.end - old.input.asked.span.start)
