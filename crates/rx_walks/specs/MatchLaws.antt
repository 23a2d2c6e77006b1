-- Laws of lists of matches: that there is one, the order of its matches, and its first matches.
use Rattle.std.specs.Prelude.{◌≡◌, ℕ, ◌+◌, ◌<◌, ◌≤◌, ◌↔◌, Bool, IsTrue, List, [], ◌∷◌, ◌++◌, length, Option, None, Some, All, AllPairs}
use Rattle.std.specs.Str.{IsUtf8}
use Rattle.rx_walks.specs.Machines.{Outcome}
use Rattle.rx_walks.specs.Looks.{Look}
use Rattle.rx_walks.specs.Finds.{Search, from_place_on, IsInside, PatternMatch}
use Rattle.rx_walks.specs.Matches.{FollowEachOther}
use Rattle.rx_walks.specs.Programs.{Program, Notes}
use Rattle.rx_walks.specs.ProgramFinds.{ProgramFinds, ProgramMatches, ProgramMatchesAll, ProgramFirstMatches, ProgramComesNext, start_of, end_of}
use Rattle.rx_walks.specs.Laws.{StandsAtBoundaries}

-- in each search a program has a list of matches
abbrev pub MatchesExist : {S : Type 0} → (S → ℕ → Bool) → (ℕ → Bool) → Program Look S → Type 0
MatchesExist member is_word p =
    (s : Search) → (ms : List (Outcome Notes)) × ProgramMatches member is_word p s ms

abbrev pub MatchesAllExist : {S : Type 0} → (S → ℕ → Bool) → (ℕ → Bool) → Program Look S → Type 0
MatchesAllExist member is_word p =
    (s : Search) → (ms : List PatternMatch) × ProgramMatchesAll member is_word p s ms

-- it is a find from the search's start or a later offset on
abbrev pub IsFoundBehind : {S : Type 0} → (S → ℕ → Bool) → (ℕ → Bool) → Program Look S → Search
    → Outcome Notes → Type 0
IsFoundBehind member is_word p s t =
    (i : ℕ) × (s.start ≤ i) × ProgramFinds member is_word p (from_place_on s i) (Some t)

-- each match of the list is one, so that what holds of finds holds of it
abbrev pub MatchesAreFound : {S : Type 0} → (S → ℕ → Bool) → (ℕ → Bool) → Program Look S → Type 0
MatchesAreFound member is_word p = (s : Search) (ms : List (Outcome Notes))
    → ProgramMatches member is_word p s ms → All (IsFoundBehind member is_word p s) ms

-- in UTF-8 they have whole characters, if empty matches inside one are skipped
abbrev pub MatchesStandAtBoundaries : {S : Type 0} → (S → ℕ → Bool) → (ℕ → Bool) → Program Look S → Type 0
MatchesStandAtBoundaries member is_word p = (s : Search) (ms : List (Outcome Notes)) → IsUtf8 s.content
    → IsTrue s.utf8_empty → ProgramMatches member is_word p s ms
    → All (StandsAtBoundaries s.content) ms

-- a match from this start to this end is inside slice, span and haystack
abbrev pub LiesBetween : Search → ℕ → ℕ → Type 0
LiesBetween s start end = IsInside s start × (start ≤ end) × IsInside s end

-- matches inside, of which each starts at the end of the one before or after it, and ends after it
pub record AreInOrder {A : Type 0} (start_of end_of : A → ℕ) (s : Search) (ms : List A)
    : Type 0 where
  pub inside : All (λ a. LiesBetween s (start_of a) (end_of a)) ms
  pub in_turn : FollowEachOther start_of end_of s.start ms
  pub apart : AllPairs (λ a b. end_of a ≤ start_of b) ms
  pub rise : AllPairs (λ a b. end_of a < end_of b) ms
  pub few : length ms ≤ length s.content + 1

-- matches are in order, don't overlap, and are at most one more than the haystack has bytes
abbrev pub MatchesRise : {S : Type 0} → (S → ℕ → Bool) → (ℕ → Bool) → Program Look S → Type 0
MatchesRise member is_word p = (s : Search) (ms : List (Outcome Notes))
    → ProgramMatches member is_word p s ms → AreInOrder start_of end_of s ms

abbrev pub MatchesAllRise : {S : Type 0} → (S → ℕ → Bool) → (ℕ → Bool) → Program Look S → Type 0
MatchesAllRise member is_word p = (s : Search) (ms : List PatternMatch)
    → ProgramMatchesAll member is_word p s ms → AreInOrder (λ a. a.start) (λ a. a.end) s ms

-- the first matches of the list: none are; with the next one they are one more; and if none is next
-- they are all
pub record HasFirstMatches {S : Type 0} (member : S → ℕ → Bool) (is_word : ℕ → Bool)
    (p : Program Look S) (s : Search) : Type 0 where
  pub none : ProgramFirstMatches member is_word p s []
  pub one_more : (ms : List (Outcome Notes)) (t : Outcome Notes)
      → (ProgramFirstMatches member is_word p s ms × ProgramComesNext member is_word p s ms (Some t))
      ↔ ProgramFirstMatches member is_word p s (ms ++ t ∷ [])
  pub all : (ms : List (Outcome Notes))
      → (ProgramFirstMatches member is_word p s ms × ProgramComesNext member is_word p s ms None)
      ↔ ProgramMatches member is_word p s ms
  pub next : (ms : List (Outcome Notes))
      → (out : Option (Outcome Notes)) × ProgramComesNext member is_word p s ms out
  pub next_is_one : (ms : List (Outcome Notes)) (out out' : Option (Outcome Notes))
      → ProgramComesNext member is_word p s ms out → ProgramComesNext member is_word p s ms out'
      → out ≡ out'

-- each program has them in each search
abbrev pub FirstMatchesGrow : {S : Type 0} → (S → ℕ → Bool) → (ℕ → Bool) → Program Look S → Type 0
FirstMatchesGrow member is_word p = (s : Search) → HasFirstMatches member is_word p s
