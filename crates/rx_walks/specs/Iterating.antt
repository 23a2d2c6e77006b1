-- What an iterator over matches gives, match by match. `finds` is what a search finds, and
-- `item_of` the item for a match.
use Rattle.std.specs.Prelude.{◌≡◌, ℕ, ◌+◌, Bool, true, false, List, [], ◌∷◌, ◌++◌, map, Option, Some, None, Result, Ok, Err}
use Rattle.std.specs.Iterator.{Yields, Drains}
use Rattle.rx_walks.specs.Machines.{Outcome}
use Rattle.rx_walks.specs.Looks.{Look}
use Rattle.rx_walks.specs.Finds.{Search, from_place_on}
use Rattle.rx_walks.specs.Programs.{Program, Notes}
use Rattle.rx_walks.specs.ProgramFinds.{ProgramFinds, ProgramMatches, ProgramFirstMatches, start_of, end_of}

-- what searches find
abbrev pub Finding : Type 1
Finding = Search → Option (Outcome Notes) → Type 0

-- an empty match where the last one ended
abbrev pub IsEmptyAtLast : Option ℕ → Outcome Notes → Type 0
IsEmptyAtLast last t = (start_of t ≡ end_of t) × (last ≡ Some (end_of t))

-- what a search finds after a match that ended at `last`, if there was one: an empty match there is
-- skipped, for what is found from the next byte on
pub data FindsNext (finds : Finding) (s : Search) (last : Option ℕ) : Option (Outcome Notes)
    → Type 0 where
  nothing : finds s None → FindsNext finds s last None
  at_once : {t : Outcome Notes} → finds s (Some t) → (IsEmptyAtLast last t → ⊥)
      → FindsNext finds s last (Some t)
  passed : {t : Outcome Notes} {out : Option (Outcome Notes)} → finds s (Some t)
      → IsEmptyAtLast last t → finds (from_place_on s (s.start + 1)) out → FindsNext finds s last out

-- what an iterator has left: the search for the next match, the end of the last one, if there was
-- one, and whether it has ended
pub record MatchesLeft : Type 0 where
  pub search : Search
  pub last_end : Option ℕ
  pub is_over : Bool

-- all of them
abbrev pub matches_from : Search → MatchesLeft
matches_from s = record { search = s; last_end = None; is_over = false }

-- a match is next, and what is left is what follows its end
pub record GivesFound {A : Type 0} (finds : Finding) (item_of : Outcome Notes → A) (m : MatchesLeft)
    (item : A) (n : MatchesLeft) : Type 0 where
  pub goes_on : m.is_over ≡ false
  pub found : Outcome Notes
  pub next : FindsNext finds m.search m.last_end (Some found)
  pub item_is : item ≡ item_of found
  pub left_is : n ≡ record {
    search = from_place_on m.search (end_of found);
    last_end = Some (end_of found);
    is_over = false;
  }

-- a step of an iterator: a match, an error, or none; after an error and after none the iterator has
-- ended
abbrev pub GivesMatch : {A E : Type 0} → Finding → (Outcome Notes → A) → MatchesLeft
    → Option (Result A E) → MatchesLeft → Type 0
GivesMatch finds item_of m None n =
    (m.is_over ≡ false → FindsNext finds m.search m.last_end None) × (n.is_over ≡ true)
GivesMatch finds item_of m (Some (Ok item)) n = GivesFound finds item_of m item n
GivesMatch finds item_of m (Some (Err error)) n = (m.is_over ≡ false) × (n.is_over ≡ true)

-- items without an error
abbrev pub not_refused : {A E : Type 0} → List A → List (Result A E)
not_refused items = map (λ a. Ok a) items

-- an iterator gives the first matches of a search until it ends or has an error, all of them if it
-- ends without an error, and nothing after an error
pub record GivesInOrder {S A E F : Type 0} (member : S → ℕ → Bool) (is_word : ℕ → Bool)
    (p : Program Look S) (item_of : Outcome Notes → A) (gives : F → Option (Result A E) → F → Type 0)
    (s : Search) (m : F) : Type 0 where
  pub first : (n : F) (items : List A) → Yields gives m (not_refused items) n
      → (ms : List (Outcome Notes)) × ProgramFirstMatches member is_word p s ms
      × (items ≡ map item_of ms)
  pub all : (items : List A) → Drains gives m (not_refused items)
      → (ms : List (Outcome Notes)) × ProgramMatches member is_word p s ms
      × (items ≡ map item_of ms)
  pub refused : (n : F) (items : List A) (error : E) (others : List (Result A E))
      → Yields gives m (not_refused items ++ Err error ∷ others) n → others ≡ []

-- an iterator gives its matches in order; `left` is what it has left, and `gives` its steps
abbrev pub IteratorsGiveInOrder : {S A E F : Type 0} → (S → ℕ → Bool) → (ℕ → Bool) → Program Look S
    → (Outcome Notes → A) → (F → MatchesLeft) → (F → Option (Result A E) → F → Type 0) → Type 0
IteratorsGiveInOrder {S} {A} {E} {F} member is_word p item_of left gives =
    ((m n : F) (item : Option (Result A E)) → gives m item n
    → GivesMatch (ProgramFinds member is_word p) item_of (left m) item (left n))
    → (s : Search) (m : F) → left m ≡ matches_from s
    → GivesInOrder member is_word p item_of gives s m
