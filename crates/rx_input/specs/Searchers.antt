-- How a searcher steps from match to match of a finder.
use Rattle.std.specs.Prelude.{◌≡◌, ℕ, ◌≤◌, ◌+◌, ◌-◌, ◌<◌, ◌^◌, ◌⊎◌, ◌==◌, Bool, true, false, Option, Some, None, Result, Ok, Err}
use Rattle.std.specs.Borrow.{MutBor}
use Rattle.std.specs.Fn.{Mut, CalledAtMut, always_mut}
use Rattle.std.specs.Iterator.{Count, at_most}
use Rattle.rx_util.specs.declared.search.MatchError.{MatchError}
use Rattle.rx_util.specs.Search.{Found, HalfFound}
use Rattle.rx_input.specs.Inputs.{InputState, HasSpan}

-- an input, and the end of the last match, if there was one; the span starts there, unless it was
-- moved since
pub record SearcherState : Type 0 where
  pub input : InputState
  pub last_match_end : Option ℕ

-- the start of the span was set
abbrev pub IsSetTo : InputState → InputState → ℕ → Type 0
IsSetTo old new start = HasSpan old new (record old.asked.span { start = start })

-- the span starts at the end of a match, which is kept
abbrev pub HasPassedMatch : InputState → ℕ → SearcherState → Type 0
HasPassedMatch old end new = IsSetTo old new.input end × (new.last_match_end ≡ Some end)

-- what a finder, in a state before and a state after, returns for an input, and the input that it
-- leaves
abbrev pub Finder : Type 0 → Type 0 → Type 1
Finder F A = F → F → InputState → Result (Option A) MatchError → InputState → Type 0

-- what a closure returns; `state` is its input
abbrev pub finder_of : {F I A : Type 0}
    → Mut F (MutBor I × Unit {0}) (Result (Option A) MatchError × (MutBor I × Unit {0}))
    → (I → InputState) → Finder F A
finder_of {F} {I} g state p q i r j =
    (x y : I) × CalledAtMut g p x r q y × (state x ≡ i) × (state y ≡ j)

-- a match ends in the span, not before its start and not at the greatest number
pub record EndsInside (i : InputState) (end : ℕ) : Type 0 where
  pub behind_start : i.asked.span.start ≤ end
  pub before_end : end ≤ i.asked.span.end
  pub fits : end + 1 < 2 ^ 64

-- the matches of a finder end in the span, and it doesn't change the settings
pub record StaysInside {F A : Type 0} (tells : Finder F A) (end : A → ℕ) : Type 0 where
  pub same : (p q : F) (i j : InputState) (r : Result (Option A) MatchError) → tells p q i r j
      → j.asked ≡ i.asked
  pub inside : (p q : F) (i j : InputState) (a : A) → tells p q i (Ok (Some a)) j
      → EndsInside i (end a)

-- the next result: what the finder returns, or, if that is a match to skip, what it returns with
-- the span starting one byte later
pub data TellsNext {F A : Type 0} (tells : Finder F A) (passes : A → Type 0) (p q : F)
    (i : InputState) (r : Result (Option A) MatchError) (j : InputState) : Type 0 where
  at_once : tells p q i r j → ((a : A) → r ≡ Ok (Some a) → passes a → ⊥)
      → TellsNext tells passes p q i r j
  further : (a : A) (m : F) (k l : InputState) → tells p m i (Ok (Some a)) k → passes a
      → IsSetTo k l (k.asked.span.start + 1) → tells m q l r j
      → TellsNext tells passes p q i r j

-- after a match the span starts at its end; otherwise the searcher is unchanged
abbrev pub GoesOn : {A : Type 0} → (A → ℕ) → SearcherState → Result (Option A) MatchError
    → SearcherState → Type 0
GoesOn end found (Ok (Some a)) new = HasPassedMatch found.input (end a) new
GoesOn end found (Ok None) new = new ≡ found
GoesOn end found (Err e) new = new ≡ found

-- a step of a searcher over a finder
pub record Advances {F A : Type 0} (tells : Finder F A) (end : A → ℕ)
    (passes : Option ℕ → A → Type 0) (p q : F) (old : SearcherState)
    (r : Result (Option A) MatchError) (new : SearcherState) : Type 0 where
  pub left : InputState
  pub next : TellsNext tells (passes old.last_match_end) p q old.input r left
  pub goes_on : GoesOn end (record old { input = left }) r new

-- ---- matches

-- an empty match at the end of the last one
abbrev pub IsEmptyAtLast : Option ℕ → Found → Type 0
IsEmptyAtLast last a = (a.span.start ≡ a.span.end) × (last ≡ Some a.span.end)

abbrev pub end_of_match : Found → ℕ
end_of_match a = a.span.end

module _ {F I : Type 0}
    (calls : Mut F (MutBor I × Unit {0}) (Result (Option Found) MatchError × (MutBor I × Unit {0})))
    (state : I → InputState) where
  -- a finder of matches: it may be called repeatedly, with any input; a match that it returns ends
  -- in the span, not before its start and not at the greatest number; and it doesn't change the
  -- settings
  pub record IsMatchFinder (finder : F) : Type 0 where
    pub callable : always_mut calls finder
    pub inside : StaysInside (finder_of calls state) end_of_match

  -- the next match of a searcher: what the finder returns, or, if that is an empty match at the end
  -- of the last one, what it returns with the span starting one byte later. After a match the span
  -- starts at its end, which is then the last one. After none, and after an error, the searcher
  -- keeps its last end.
  pub record GivesNextMatch (finder : F) (old : SearcherState)
      (r : Result (Option Found) MatchError) (new : SearcherState) : Type 0 where
    pub left : F
    pub advances : Advances (finder_of calls state) end_of_match IsEmptyAtLast finder left old r new

-- ---- half matches

-- a half match at the end of the last one
abbrev pub IsAtLast : Option ℕ → HalfFound → Type 0
IsAtLast last a = last ≡ Some a.offset

abbrev pub end_of_half : HalfFound → ℕ
end_of_half a = a.offset

module _ {F I : Type 0}
    (calls : Mut F (MutBor I × Unit {0})
    (Result (Option HalfFound) MatchError × (MutBor I × Unit {0})))
    (state : I → InputState) where
  -- a finder of half matches, like one of matches
  pub record IsHalfMatchFinder (finder : F) : Type 0 where
    pub callable : always_mut calls finder
    pub inside : StaysInside (finder_of calls state) end_of_half

  -- the next half match, with the finder after it: like the next match, but the first one is
  -- skipped if it ends at the end of the last one, because its start isn't known. The one found
  -- with the span starting one byte later isn't skipped, wherever it ends.
  abbrev pub GivesHalfMatchBy : F → F → SearcherState → Result (Option HalfFound) MatchError
      → SearcherState → Type 0
  GivesHalfMatchBy finder left old r new =
      Advances (finder_of calls state) end_of_half IsAtLast finder left old r new

  -- the same, whatever the finder becomes
  pub record GivesNextHalfMatch (finder : F) (old : SearcherState)
      (r : Result (Option HalfFound) MatchError) (new : SearcherState) : Type 0 where
    pub left : F
    pub advances : GivesHalfMatchBy finder left old r new

-- the last match ended here
abbrev pub is_last_end : Option ℕ → ℕ → Bool
is_last_end None place = false
is_last_end (Some end) place = end == place

-- the greatest number of further items, with `ahead` bytes ahead: each ends after the one before,
-- and an error is the last
abbrev pub items_at_most : Bool → Bool → ℕ → ℕ
items_at_most true is_at_last ahead = 0
items_at_most false true ahead = ahead + 1
items_at_most false false ahead = ahead + 2

-- the greatest number of further half matches, wherever the span starts
abbrev pub half_matches_left : SearcherState → Bool → Count
half_matches_left s is_over =
    at_most (items_at_most is_over (is_last_end s.last_match_end s.input.asked.span.start)
    (s.input.asked.span.end - s.input.asked.span.start))

-- an item of an iterator, given the result of its searcher's step: none if that is none, and none
-- after that or after an error
abbrev pub GivesAnswer : {A : Type 0} → (Result (Option A) MatchError → Type 0) → Bool
    → Option (Result A MatchError) → Bool → Type 0
GivesAnswer answers was_over None is_over =
    ((was_over ≡ true) ⊎ answers (Ok None)) × (is_over ≡ true)
GivesAnswer answers was_over (Some (Ok a)) is_over =
    (was_over ≡ false) × answers (Ok (Some a)) × (is_over ≡ false)
GivesAnswer answers was_over (Some (Err e)) is_over =
    (was_over ≡ false) × answers (Err e) × (is_over ≡ true)
