-- The matches of a program for `MatchKind::All`: the first ones of their list, the next one, and
-- what an iterator over them gives. `finds` is what a search finds, and `item_of` the item for a
-- match.
use Rattle.std.specs.Prelude.{◌≡◌, ℕ, ◌+◌, ◌↔◌, Bool, true, false, IsTrue, List, [], ◌∷◌, ◌++◌, map, Option, Some, None, Result, Ok, Err, All}
use Rattle.std.specs.Str.{IsUtf8, IsCharBoundary}
use Rattle.std.specs.Iterator.{Yields, Drains}
use Rattle.rx_walks.specs.Looks.{Look}
use Rattle.rx_walks.specs.Finds.{Search, from_place_on, PatternMatch}
use Rattle.rx_walks.specs.Matches.{ComesNext, FirstMatches}
use Rattle.rx_walks.specs.Programs.{Program}
use Rattle.rx_walks.specs.ProgramFinds.{ProgramFinds, ProgramFindsAll, ProgramMatchesAll, finds_all_on}
use Rattle.rx_walks.specs.Iterating.{MatchesLeft, matches_from, not_refused}

-- the first matches of the list, possibly all
abbrev pub ProgramFirstMatchesAll : {S : Type 0} → (S → ℕ → Bool) → (ℕ → Bool) → Program Look S
    → Search → List PatternMatch → Type 0
ProgramFirstMatchesAll member is_word p s ms =
    FirstMatches (finds_all_on (ProgramFindsAll member is_word p) s) s.start ms

-- the match after these, or none
abbrev pub ProgramComesNextAll : {S : Type 0} → (S → ℕ → Bool) → (ℕ → Bool) → Program Look S
    → Search → List PatternMatch → Option PatternMatch → Type 0
ProgramComesNextAll member is_word p s ms out =
    ComesNext (finds_all_on (ProgramFindsAll member is_word p) s) s.start ms out

-- the first matches of the list: none are; with the next one they are one more; and if none is next
-- they are all
pub record HasFirstMatchesAll {S : Type 0} (member : S → ℕ → Bool) (is_word : ℕ → Bool)
    (p : Program Look S) (s : Search) : Type 0 where
  pub none : ProgramFirstMatchesAll member is_word p s []
  pub one_more : (ms : List PatternMatch) (a : PatternMatch)
      → (ProgramFirstMatchesAll member is_word p s ms
      × ProgramComesNextAll member is_word p s ms (Some a))
      ↔ ProgramFirstMatchesAll member is_word p s (ms ++ a ∷ [])
  pub all : (ms : List PatternMatch)
      → (ProgramFirstMatchesAll member is_word p s ms
      × ProgramComesNextAll member is_word p s ms None)
      ↔ ProgramMatchesAll member is_word p s ms
  pub next : (ms : List PatternMatch)
      → (out : Option PatternMatch) × ProgramComesNextAll member is_word p s ms out
  pub next_is_one : (ms : List PatternMatch) (out out' : Option PatternMatch)
      → ProgramComesNextAll member is_word p s ms out
      → ProgramComesNextAll member is_word p s ms out' → out ≡ out'

abbrev pub FirstMatchesAllGrow : {S : Type 0} → (S → ℕ → Bool) → (ℕ → Bool) → Program Look S
    → Type 0
FirstMatchesAllGrow member is_word p = (s : Search) → HasFirstMatchesAll member is_word p s

-- it starts and ends at character boundaries of the haystack
abbrev pub StandsWhole : List ℕ → PatternMatch → Type 0
StandsWhole content a = IsCharBoundary content a.start × IsCharBoundary content a.end

-- in UTF-8 they have whole characters, if empty matches inside one are skipped
abbrev pub MatchesAllStandAtBoundaries : {S : Type 0} → (S → ℕ → Bool) → (ℕ → Bool)
    → Program Look S → Type 0
MatchesAllStandAtBoundaries member is_word p = (s : Search) (ms : List PatternMatch)
    → IsUtf8 s.content → IsTrue s.utf8_empty → ProgramMatchesAll member is_word p s ms
    → All (StandsWhole s.content) ms

-- there is a find among all matches exactly if there is a leftmost-first one
abbrev pub FindsAgree : {S : Type 0} → (S → ℕ → Bool) → (ℕ → Bool) → Program Look S → Type 0
FindsAgree member is_word p = (s : Search)
    → ProgramFinds member is_word p s None ↔ ProgramFindsAll member is_word p s None

-- ---- iterators

-- what searches find
abbrev pub FindingAll : Type 1
FindingAll = Search → Option PatternMatch → Type 0

-- an empty match where the last one ended
abbrev pub IsEmptyAtLastAll : Option ℕ → PatternMatch → Type 0
IsEmptyAtLastAll last a = (a.start ≡ a.end) × (last ≡ Some a.end)

-- what a search finds after a match that ended at `last`, if there was one: an empty match there is
-- skipped, for what is found from the next byte on
pub data FindsNextAll (finds : FindingAll) (s : Search) (last : Option ℕ) : Option PatternMatch
    → Type 0 where
  nothing : finds s None → FindsNextAll finds s last None
  at_once : {a : PatternMatch} → finds s (Some a) → (IsEmptyAtLastAll last a → ⊥)
      → FindsNextAll finds s last (Some a)
  passed : {a : PatternMatch} {out : Option PatternMatch} → finds s (Some a)
      → IsEmptyAtLastAll last a → finds (from_place_on s (s.start + 1)) out
      → FindsNextAll finds s last out

-- a match is next, and what is left is what follows its end
pub record GivesFoundAll {A : Type 0} (finds : FindingAll) (item_of : PatternMatch → A)
    (m : MatchesLeft) (item : A) (n : MatchesLeft) : Type 0 where
  pub goes_on : m.is_over ≡ false
  pub found : PatternMatch
  pub next : FindsNextAll finds m.search m.last_end (Some found)
  pub item_is : item ≡ item_of found
  pub left_is : n ≡ record {
    search = from_place_on m.search found.end;
    last_end = Some found.end;
    is_over = false;
  }

-- a step of an iterator: a match, an error, or none; after an error and after none the iterator has
-- ended
abbrev pub GivesMatchAll : {A E : Type 0} → FindingAll → (PatternMatch → A) → MatchesLeft
    → Option (Result A E) → MatchesLeft → Type 0
GivesMatchAll finds item_of m None n =
    (m.is_over ≡ false → FindsNextAll finds m.search m.last_end None) × (n.is_over ≡ true)
GivesMatchAll finds item_of m (Some (Ok item)) n = GivesFoundAll finds item_of m item n
GivesMatchAll finds item_of m (Some (Err error)) n = (m.is_over ≡ false) × (n.is_over ≡ true)

-- an iterator gives the first matches of a search until it ends or has an error, all of them if it
-- ends without an error, and nothing after an error
pub record GivesAllInOrder {S A E F : Type 0} (member : S → ℕ → Bool) (is_word : ℕ → Bool)
    (p : Program Look S) (item_of : PatternMatch → A) (gives : F → Option (Result A E) → F → Type 0)
    (s : Search) (m : F) : Type 0 where
  pub first : (n : F) (items : List A) → Yields gives m (not_refused items) n
      → (ms : List PatternMatch) × ProgramFirstMatchesAll member is_word p s ms
      × (items ≡ map item_of ms)
  pub all : (items : List A) → Drains gives m (not_refused items)
      → (ms : List PatternMatch) × ProgramMatchesAll member is_word p s ms
      × (items ≡ map item_of ms)
  pub refused : (n : F) (items : List A) (error : E) (others : List (Result A E))
      → Yields gives m (not_refused items ++ Err error ∷ others) n → others ≡ []

abbrev pub IteratorsGiveAllInOrder : {S A E F : Type 0} → (S → ℕ → Bool) → (ℕ → Bool)
    → Program Look S → (PatternMatch → A) → (F → MatchesLeft)
    → (F → Option (Result A E) → F → Type 0) → Type 0
IteratorsGiveAllInOrder {S} {A} {E} {F} member is_word p item_of left gives =
    ((m n : F) (item : Option (Result A E)) → gives m item n
    → GivesMatchAll (ProgramFindsAll member is_word p) item_of (left m) item (left n))
    → (s : Search) (m : F) → left m ≡ matches_from s
    → GivesAllInOrder member is_word p item_of gives s m
