-- What a search finds with a machine, from its start node.
use Rattle.std.specs.Prelude.{◌≡◌, ℕ, ◌<◌, ◌≤◌, ◌⊎◌, Bool, true, false, IsTrue, List, [], length, Option, Some, None}
use Rattle.std.specs.Str.{IsCharBoundary}
use Rattle.rx_walks.specs.Machines.{Machine, Outcome}
use Rattle.rx_walks.specs.Walks.{IsLeast, Reaches}

-- where a match may start, and of which patterns: anywhere in the span; only at its start; only
-- there, and of one pattern
pub data Anchoring : Type 0 where
  unanchored : Anchoring
  anchored : Anchoring
  anchored_pattern : ℕ → Anchoring

abbrev pub is_anchored : Anchoring → Bool
is_anchored unanchored = false
is_anchored anchored = true
is_anchored (anchored_pattern p) = true

-- what is searched. Matches are in the span, from `start` to `end`; assertions see the slice.
-- `utf8_empty` skips empty matches inside a character.
pub record Search : Type 0 where
  pub content : List ℕ
  pub slice_start : ℕ
  pub slice_end : ℕ
  pub start : ℕ
  pub end : ℕ
  pub anchoring : Anchoring
  pub utf8_empty : Bool

-- the search from another offset on
abbrev pub from_place_on : Search → ℕ → Search
from_place_on s i = record s { start = i }

-- the search of the span that is cut at an offset; assertions still see the text after it
abbrev pub up_to_place : Search → ℕ → Search
up_to_place s i = record s { end = i }

-- the offset is inside slice, span and haystack
abbrev pub IsInside : Search → ℕ → Type 0
IsInside s i =
    (s.slice_start ≤ i) × (i ≤ s.slice_end) × (s.start ≤ i) × (i ≤ s.end) × (i ≤ length s.content)

-- a match may start there
abbrev pub IsPossible : Search → ℕ → Type 0
IsPossible s i = IsInside s i × (IsTrue (is_anchored s.anchoring) → i ≡ s.start)

-- a match from this start to this end counts: it isn't empty, or its offset is a character
-- boundary, or `utf8_empty` isn't set
abbrev pub MayEnd : Search → ℕ → ℕ → Type 0
MayEnd s i e = (e ≡ i → ⊥) ⊎ (IsTrue s.utf8_empty → IsCharBoundary s.content i)

-- a start counts, and this is the outcome of its least walk; a walk starts with the notes `fresh`
pub record Counts {Q N : Type 0} (m : Machine Q N) (fresh : ℕ → N) (s : Search) (q : Q) (i : ℕ)
    (t : Outcome N) : Type 0 where
  pub possible : IsPossible s i
  pub least : IsLeast m [] (fresh i) q i t
  pub may_end : MayEnd s i t.end

-- leftmost-first: the least walk of the least start that counts, or none
pub data IsFind {Q N : Type 0} (m : Machine Q N) (fresh : ℕ → N) (s : Search)
    (q : Q) : Option (Outcome N) → Type 0 where
  not_found : ((i : ℕ) (t : Outcome N) → Counts m fresh s q i t → ⊥) → IsFind m fresh s q None
  is_found : {i : ℕ} {t : Outcome N} → Counts m fresh s q i t
      → ((j : ℕ) (u : Outcome N) → j < i → Counts m fresh s q j u → ⊥) → IsFind m fresh s q (Some t)

-- a match: its start, its pattern and its end
pub record PatternMatch : Type 0 where
  pub start : ℕ
  pub pattern : ℕ
  pub end : ℕ

-- the first has a greater end, or else a lesser start, or else a lesser pattern, or both are equal
pub record IsAtLeast (a b : PatternMatch) : Type 0 where
  pub by_end : b.end ≤ a.end
  pub by_start : b.end ≡ a.end → a.start ≤ b.start
  pub by_pattern : b.end ≡ a.end → b.start ≡ a.start → a.pattern ≤ b.pattern

-- some walk from its start matches its pattern and ends at its end, and counts
pub record CountsAmongAll {Q N : Type 0} (m : Machine Q N) (fresh : ℕ → N) (s : Search) (q : Q)
    (a : PatternMatch) : Type 0 where
  pub possible : IsPossible s a.start
  pub reaches : Reaches m [] (fresh a.start) q a.start a.pattern a.end
  pub may_end : MayEnd s a.start a.end

-- among all matches: of all walks the greatest end, with it the least start, and with both the
-- least pattern
pub data IsFindAll {Q N : Type 0} (m : Machine Q N) (fresh : ℕ → N) (s : Search)
    (q : Q) : Option PatternMatch → Type 0 where
  none_at_all : ((a : PatternMatch) → CountsAmongAll m fresh s q a → ⊥) → IsFindAll m fresh s q None
  greatest : {a : PatternMatch} → CountsAmongAll m fresh s q a
      → ((b : PatternMatch) → CountsAmongAll m fresh s q b → IsAtLeast a b)
      → IsFindAll m fresh s q (Some a)
