-- The matches of repeated finds.
use Rattle.std.specs.Prelude.{◌≡◌, ℕ, ◌+◌, ◌≤◌, List, [], ◌∷◌, ◌++◌, Option, Some, None}
use Rattle.std.specs.List.{last_or}

-- what is found from an offset on, and where a match starts and ends
pub record RepeatedFinds (A : Type 0) : Type 1 where
  pub find : ℕ → Option A → Type 0
  pub start_of : A → ℕ
  pub end_of : A → ℕ

-- what is found after a match that ends at e: the find from e on, or, if that is an empty match at
-- e, the one from e + 1 on
pub data Next {A : Type 0} (finds : RepeatedFinds A) (e : ℕ) : Option A → Type 0 where
  no_more : finds.find e None → Next finds e None
  at_once : {a : A} → finds.find e (Some a) → (finds.start_of a ≡ e → finds.end_of a ≡ e → ⊥)
      → Next finds e (Some a)
  moved : {a : A} {out : Option A} → finds.find e (Some a) → finds.start_of a ≡ e
      → finds.end_of a ≡ e → finds.find (e + 1) out → Next finds e out

-- the matches after one that ends at e
pub data Further {A : Type 0} (finds : RepeatedFinds A) : ℕ → List A → Type 0 where
  last : {e : ℕ} → Next finds e None → Further finds e []
  one_more : {e : ℕ} {a : A} {others : List A} → Next finds e (Some a)
      → Further finds (finds.end_of a) others → Further finds e (a ∷ others)

-- the matches from an offset on
pub data Matches {A : Type 0} (finds : RepeatedFinds A) (start : ℕ) : List A → Type 0 where
  no_match : finds.find start None → Matches finds start []
  first : {a : A} {others : List A} → finds.find start (Some a)
      → Further finds (finds.end_of a) others → Matches finds start (a ∷ others)

-- each starts at this offset or after it, and doesn't end before it starts; the others do so from
-- its end on
abbrev pub FollowEachOther : {A : Type 0} → (A → ℕ) → (A → ℕ) → ℕ → List A → Type 0
FollowEachOther start_of end_of at [] = Unit {0}
FollowEachOther start_of end_of at (a ∷ others) =
    (at ≤ start_of a) × (start_of a ≤ end_of a) × FollowEachOther start_of end_of (end_of a) others

-- the match after the last one; without a last one, the find from the start on
abbrev pub BehindLast : {A : Type 0} → RepeatedFinds A → ℕ → Option A → Option A → Type 0
BehindLast finds start None out = finds.find start out
BehindLast finds start (Some a) out = Next finds (finds.end_of a) out

-- the match after these
abbrev pub ComesNext : {A : Type 0} → RepeatedFinds A → ℕ → List A → Option A → Type 0
ComesNext finds start ms out = BehindLast finds start (last_or None ms) out

-- the first matches from an offset on, possibly all
abbrev pub FirstMatches : {A : Type 0} → RepeatedFinds A → ℕ → List A → Type 0
FirstMatches {A} finds start ms = (others : List A) × Matches finds start (ms ++ others)
