-- What a program finds in a haystack. `member` defines which characters are in a set, `is_word`
-- which are word characters.
use Rattle.std.specs.Prelude.{◌≡◌, ℕ, Bool, List, take, drop, reverse, length, Option, Some, None, slice_get, max, min}
use Rattle.rx_walks.specs.Machines.{Machine, Outcome}
use Rattle.rx_walks.specs.Characters.{member_len}
use Rattle.rx_walks.specs.Looks.{Look, holds_between}
use Rattle.rx_walks.specs.Programs.{Program, Haystack, Notes, fresh_notes, put_note, over_characters}
use Rattle.rx_walks.specs.Finds.{Anchoring, unanchored, anchored, anchored_pattern, Search, from_place_on, PatternMatch, IsFind, IsFindAll}
use Rattle.rx_walks.specs.Matches.{RepeatedFinds, Matches, ComesNext, FirstMatches}

-- the bytes of the slice before an offset, in reverse order; and those after it
abbrev pub before_in : Search → ℕ → List ℕ
before_in s i = reverse (drop s.slice_start (take i s.content))

abbrev pub after_in : Search → ℕ → List ℕ
after_in s i = drop i (take s.slice_end s.content)

-- an assertion holds at an offset of the slice
abbrev pub holds_in : (ℕ → Bool) → ℕ → Search → Look → ℕ → Bool
holds_in is_word terminator s l i =
    holds_between is_word terminator l (before_in s i) (after_in s i)

-- the lowest and the highest offset inside slice, span and haystack
abbrev pub lowest : Search → ℕ
lowest s = max s.slice_start s.start

abbrev pub highest : Search → ℕ
highest s = min (min s.slice_end s.end) (length s.content)

abbrev pub haystack_of : {L : Type 0} → (L → ℕ → Bool) → Search → Haystack L
haystack_of holds s =
    record { content = s.content; low = lowest s; high = highest s; holds = holds }

-- the number of bytes of the first character, if it is in the set
abbrev pub first_by : {S : Type 0} → (S → ℕ → Bool) → S → List ℕ → Option ℕ
first_by member x bytes = member_len (member x) bytes

abbrev pub machine_of : {S : Type 0} → (S → ℕ → Bool) → (ℕ → Bool) → Program Look S → Search
    → Machine ℕ Notes
machine_of member is_word p s =
    over_characters put_note (first_by member) p.nodes
    (haystack_of (holds_in is_word p.line_terminator s) s)

-- the start node; an unknown pattern has none
abbrev pub start_node : {L S : Type 0} → Program L S → Anchoring → Option ℕ
start_node p unanchored = Some p.start
start_node p anchored = Some p.start
start_node p (anchored_pattern k) = slice_get p.patterns k

-- a find from a node, and none without a node
abbrev pub IfStarts : {A : Type 0} → Option ℕ → (ℕ → Option A → Type 0) → Option A → Type 0
IfStarts None finds out = out ≡ None
IfStarts (Some q) finds out = finds q out

-- the least walk of the least start that counts, with its notes
abbrev pub ProgramFinds : {S : Type 0} → (S → ℕ → Bool) → (ℕ → Bool) → Program Look S → Search
    → Option (Outcome Notes) → Type 0
ProgramFinds member is_word p s out =
    IfStarts (start_node p s.anchoring) (IsFind (machine_of member is_word p s) fresh_notes s) out

-- the greatest end among all matches
abbrev pub ProgramFindsAll : {S : Type 0} → (S → ℕ → Bool) → (ℕ → Bool) → Program Look S → Search
    → Option PatternMatch → Type 0
ProgramFindsAll member is_word p s out =
    IfStarts (start_node p s.anchoring)
    (IsFindAll (machine_of member is_word p s) fresh_notes s) out

abbrev pub start_of : Outcome Notes → ℕ
start_of t = t.notes.start

abbrev pub end_of : Outcome Notes → ℕ
end_of t = t.end

-- what searches find from later offsets on
abbrev pub finds_on : (Search → Option (Outcome Notes) → Type 0) → Search
    → RepeatedFinds (Outcome Notes)
finds_on finds s = record {
  find = λ i out. finds (from_place_on s i) out;
  start_of = start_of;
  end_of = end_of;
}

-- and among all matches
abbrev pub finds_all_on : (Search → Option PatternMatch → Type 0) → Search
    → RepeatedFinds PatternMatch
finds_all_on finds s = record {
  find = λ i out. finds (from_place_on s i) out;
  start_of = λ a. a.start;
  end_of = λ a. a.end;
}

-- the matches of a program, in order
abbrev pub ProgramMatches : {S : Type 0} → (S → ℕ → Bool) → (ℕ → Bool) → Program Look S → Search
    → List (Outcome Notes) → Type 0
ProgramMatches member is_word p s ms =
    Matches (finds_on (ProgramFinds member is_word p) s) s.start ms

-- the first matches of that list, possibly all
abbrev pub ProgramFirstMatches : {S : Type 0} → (S → ℕ → Bool) → (ℕ → Bool) → Program Look S
    → Search → List (Outcome Notes) → Type 0
ProgramFirstMatches member is_word p s ms =
    FirstMatches (finds_on (ProgramFinds member is_word p) s) s.start ms

-- the match after these, or none
abbrev pub ProgramComesNext : {S : Type 0} → (S → ℕ → Bool) → (ℕ → Bool) → Program Look S → Search
    → List (Outcome Notes) → Option (Outcome Notes) → Type 0
ProgramComesNext member is_word p s ms out =
    ComesNext (finds_on (ProgramFinds member is_word p) s) s.start ms out

-- the list for `MatchKind::All`
abbrev pub ProgramMatchesAll : {S : Type 0} → (S → ℕ → Bool) → (ℕ → Bool) → Program Look S → Search
    → List PatternMatch → Type 0
ProgramMatchesAll member is_word p s ms =
    Matches (finds_all_on (ProgramFindsAll member is_word p) s) s.start ms
