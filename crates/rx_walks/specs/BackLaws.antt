-- Laws of reverse programs and backward searches.
use Rattle.std.specs.Prelude.{◌≡◌, ℕ, ◌+◌, ◌-◌, ◌<◌, ◌≤◌, ◌↔◌, Bool, List, [], length, Option, None, Some, slice_get}
use Rattle.rx_walks.specs.Machines.{Machine, Outcome}
use Rattle.rx_walks.specs.Finds.{Search, PatternMatch, IsFindAll}
use Rattle.rx_walks.specs.Looks.{Look}
use Rattle.rx_walks.specs.Bytes.{Automaton, over_bytes}
use Rattle.rx_walks.specs.Laws.{ReadsMembers, ReadsWhole, MayBegin}
use Rattle.rx_walks.specs.Paths.{Path}
use Rattle.rx_walks.specs.Trails.{Trail, cut_at}
use Rattle.rx_walks.specs.StepsAll.{SearchesAll}
use Rattle.rx_walks.specs.Programs.{Node, Program, IsAbovePatterns, Haystack, Notes, left_from, put_note, over_characters}
use Rattle.rx_walks.specs.ProgramFinds.{ProgramFinds, first_by, haystack_of, holds_in, machine_of, start_node, start_of}
use Rattle.rx_walks.specs.Backward.{ProgramFindsBack, back_from, mirrored_search, FitsContent, IsToldBack}
use Rattle.rx_walks.specs.Reversed.{mirrored, last_by, back_program}
use Rattle.rx_walks.specs.Owners.{HasOwners, KeepsPatterns}

-- ---- paths

-- a path is one edge after the other
abbrev pub PathsAreTrails : {L S N : Type 0} → (ℕ → ℕ → N → N) → (S → List ℕ → Option ℕ)
    → List (Node L S) → Haystack L → Type 0
PathsAreTrails put first nodes h =
    (q i p e : ℕ) → Path (over_characters put first nodes h) q i p e ↔ Trail first nodes h q i p e

-- if walks stop at an offset, there are the paths that end there or before it
abbrev pub PathsAreCut : {S : Type 0} → (S → ℕ → Bool) → List (Node Look S) → Haystack Look → Type 0
PathsAreCut member nodes h = (high : ℕ) → high ≤ h.high → (q i p e : ℕ) → e ≤ high
    → Path (over_characters put_note (first_by member) nodes h) q i p e
    ↔ Path (over_characters put_note (first_by member) nodes (cut_at h high)) q i p e

-- what is read forward from one offset to another is read from there on in the reversed haystack
abbrev pub ReadsTurn : {L S : Type 0} → (S → ℕ → Bool) → Haystack L → Type 0
ReadsTurn {L} {S} member h = (x : S) (i j k : ℕ) → h.low ≤ i → i + k ≡ j → j ≤ h.high
    → h.high ≤ length h.content
    → (first_by member x (left_from h i) ≡ Some k)
    ↔ (last_by member x (left_from (mirrored h) (length h.content - j)) ≡ Some k)

-- ---- where a find starts

-- the first offset at which a match may begin and from which a path leads to a match end
pub record IsFirstStart {Q N : Type 0} (m : Machine Q N) (begins : ℕ → Type 0) (q : Q)
    (i : ℕ) : Type 0 where
  pub here : begins i
  pub leads : (p : ℕ) × (e : ℕ) × Path m q i p e
  pub none_before : (j p e : ℕ) → j < i → begins j → Path m q j p e → ⊥

-- a find's start is that offset, and if nothing is found there is none
pub record StartsFirst {S : Type 0} (member : S → ℕ → Bool) (is_word : ℕ → Bool)
    (p : Program Look S) (s : Search) (q : ℕ) : Type 0 where
  pub found : (t : Outcome Notes) → ProgramFinds member is_word p s (Some t)
      → IsFirstStart (machine_of member is_word p s) (MayBegin s) q (start_of t)
  pub not_found : ProgramFinds member is_word p s None
      → (i k e : ℕ) → MayBegin s i → Path (machine_of member is_word p s) q i k e → ⊥

abbrev pub FindsStartFirst : {S : Type 0} → (S → ℕ → Bool) → (ℕ → Bool) → Program Look S → Type 0
FindsStartFirst member is_word p = (s : Search) (q : ℕ) → start_node p s.anchoring ≡ Some q
    → StartsFirst member is_word p s q

-- ---- searches with whatever reads characters

-- the search loop for all matches finds the greatest end, whatever `first` reads, if it reads only
-- where a character of the haystack may begin
abbrev pub ReadersFindAll : {L S N : Type 0} → (ℕ → ℕ → N → N) → (S → List ℕ → Option ℕ)
    → (ℕ → Automaton) → List (Node L S) → Haystack L → Type 0
ReadersFindAll {L} {S} {N} put first step nodes h =
    (s : Search) (fresh : ℕ → N) (q : ℕ) (out : Option PatternMatch)
    → ReadsMembers first step nodes → ReadsWhole (over_characters put first nodes h) s.content
    → SearchesAll (over_bytes put step nodes h) (MayBegin s) (q, 0) s.start [] None out
    → IsFindAll (over_characters put first nodes h) fresh s q out

-- ---- backward finds

-- there is at most one
abbrev pub FindsBackAtMostOne : {S : Type 0} → (S → ℕ → Bool) → (ℕ → Bool) → Program Look S
    → Type 0
FindsBackAtMostOne member is_word p = (s : Search) (out out' : Option PatternMatch)
    → ProgramFindsBack member is_word p s out → ProgramFindsBack member is_word p s out'
    → out ≡ out'

-- a backward find starts and ends where a find does, and its pattern is no greater
pub record IsStartOf (t : Outcome Notes) (out : Option PatternMatch) : Type 0 where
  pub found : PatternMatch
  pub is : out ≡ Some found
  pub start : found.start ≡ start_of t
  pub end : found.end ≡ t.end
  pub pattern : found.pattern ≤ t.pattern

-- the backward find from the end of a find has its start
abbrev pub FindsStartBack : {S : Type 0} → (S → ℕ → Bool) → (ℕ → Bool) → Program Look S → Type 0
FindsStartBack member is_word p = (s : Search) (t : Outcome Notes) (out : Option PatternMatch)
    → ProgramFinds member is_word p s (Some t)
    → ProgramFindsBack member is_word p (back_from s t.end) out → IsStartOf t out

-- and it is the same match, if walks stay in their pattern
abbrev pub FindsMatchBack : {S : Type 0} → (S → ℕ → Bool) → (ℕ → Bool) → Program Look S → Type 0
FindsMatchBack member is_word p = IsAbovePatterns p → (s : Search)
    → KeepsPatterns member is_word p s → (t : Outcome Notes) (out : Option PatternMatch)
    → ProgramFinds member is_word p s (Some t)
    → ProgramFindsBack member is_word p (back_from s t.end) out
    → out ≡ Some (record { start = start_of t; pattern = t.pattern; end = t.end })

-- they do if edges do
abbrev pub OwnersKeepPatterns : {S : Type 0} → (S → ℕ → Bool) → (ℕ → Bool) → Program Look S
    → Type 0
OwnersKeepPatterns member is_word p = (owner : ℕ → Option ℕ) → HasOwners p owner → (s : Search)
    → KeepsPatterns member is_word p s

-- if the span or the slice starts past the haystack's end, nothing is found
abbrev pub NothingIsFoundOutside : {S : Type 0} → (S → ℕ → Bool) → (ℕ → Bool) → Program Look S
    → Type 0
NothingIsFoundOutside member is_word p = (s : Search) → (FitsContent s → ⊥)
    → ProgramFindsBack member is_word p s None

-- ---- the reverse program

-- the paths of a program from pattern k's start to a match end are those of the reverse program
-- from that end to that start, over the reversed haystack; `Back` are those of the reverse program
pub record PathsTurn {L S N : Type 0} (put : ℕ → ℕ → N → N) (member : S → ℕ → Bool)
    (p : Program L S) (h : Haystack L) (turned : Program L S)
    (Back : ℕ → ℕ → ℕ → ℕ → Type 0) : Type 0 where
  pub of_any : (k q s e : ℕ) → slice_get p.patterns k ≡ Some q
      → s ≤ length h.content → e ≤ length h.content
      → ((t : ℕ) × Path (over_characters put (first_by member) p.nodes h) q s t e)
      ↔ Back turned.start (length h.content - e) k (length h.content - s)
  -- if the match is one of pattern t
  pub of_one : (t k q r s e : ℕ) → slice_get p.patterns k ≡ Some q
      → slice_get turned.patterns t ≡ Some r
      → s ≤ length h.content → e ≤ length h.content
      → Path (over_characters put (first_by member) p.nodes h) q s t e
      ↔ Back r (length h.content - e) k (length h.content - s)

abbrev pub ProgramTurns : {L S N : Type 0} → (ℕ → ℕ → N → N) → (S → ℕ → Bool) → Program L S
    → Haystack L → Type 0
ProgramTurns put member p h = h.low ≤ length h.content → h.high ≤ length h.content
    → PathsTurn put member p h (back_program p)
    (λ r i k e.
    Path (over_characters put (last_by member) (back_program p).nodes (mirrored h)) r i k e)

-- the same for its bytes
abbrev pub ProgramTurnsInBytes : {S : Type 0} → (S → ℕ → Bool) → Program Look S → (ℕ → Automaton)
    → Type 0
ProgramTurnsInBytes member p step = ReadsMembers (last_by member) step (back_program p).nodes
    → (h : Haystack Look) → h.low ≤ length h.content → h.high ≤ length h.content
    → PathsTurn put_note member p h (back_program p)
    (λ r i k e. Path (over_bytes put_note step (back_program p).nodes (mirrored h)) (r, 0) i k e)

-- the search loop of the reverse program's bytes over the reversed haystack finds what the program
-- finds backward; for an unknown pattern there is nothing
pub record SearchesBack {S : Type 0} (member : S → ℕ → Bool) (is_word : ℕ → Bool)
    (p : Program Look S) (step : ℕ → Automaton) (s : Search) : Type 0 where
  pub searched : (r : ℕ) (out told : Option PatternMatch)
      → start_node (back_program p) s.anchoring ≡ Some r
      → SearchesAll
      (over_bytes put_note step (back_program p).nodes
      (mirrored (haystack_of (holds_in is_word p.line_terminator s) s)))
      (MayBegin (mirrored_search s)) (r, 0) (mirrored_search s).start [] None out
      → IsToldBack s out told → ProgramFindsBack member is_word p s told
  pub unknown : start_node (back_program p) s.anchoring ≡ None
      → ProgramFindsBack member is_word p s None

abbrev pub ProgramIsSearchedBack : {S : Type 0} → (S → ℕ → Bool) → (ℕ → Bool) → Program Look S
    → (ℕ → Automaton) → Type 0
ProgramIsSearchedBack member is_word p step = IsAbovePatterns p
    → ReadsMembers (last_by member) step (back_program p).nodes
    → (s : Search) → FitsContent s → KeepsPatterns member is_word p s
    → SearchesBack member is_word p step s
