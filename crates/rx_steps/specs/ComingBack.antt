-- How far a backward search has got.
use Rattle.std.specs.Prelude.{◌≡◌, ℕ, ◌+◌, ◌-◌, ◌<◌, ◌≤◌, ◌⊎◌, Bool, false, List, [], length, Option, None, option_map, slice_get, cond, nat_lt}
use Rattle.rx_util.specs.Search.{HalfFound}
use Rattle.rx_walks.specs.Backward.{IsToldBack, mirrored_search}
use Rattle.rx_walks.specs.Finds.{Search, PatternMatch}
use Rattle.rx_walks.specs.Laws.{MayBegin}
use Rattle.rx_walks.specs.Machines.{Machine}
use Rattle.rx_walks.specs.ProgramFinds.{lowest}
use Rattle.rx_walks.specs.Programs.{Notes}
use Rattle.rx_walks.specs.Reversed.{mirrored}
use Rattle.rx_walks.specs.StepsAll.{StepsAll, Latest, SearchesAll}
use Rattle.rx_walks.specs.Looks as walks
use Rattle.rx_program.specs.Programs.{ByteProgram}
use Rattle.rx_program.specs.Reversed.{ReverseByteProgram}
use Rattle.rx_steps.specs.Lists.{Asks}
use Rattle.rx_steps.specs.Nodes.{widths_of}
use Rattle.rx_steps.specs.Reversed.{byte_program_of}
use Rattle.rx_steps.specs.ListsAll.{IsStepAll, Started, byte_machine, end_met_by, started_at}
use Rattle.rx_steps.specs.Searching.{haystack_in}

-- the machine of a reverse program over the reversed haystack
abbrev pub back_machine_in : ByteProgram → Search → Machine (ℕ × ℕ) Notes
back_machine_in p s = byte_machine p (mirrored (haystack_in p.line_terminator s))

-- an offset's counterpart in the reversed haystack
abbrev pub mirror_of : Search → ℕ → ℕ
mirror_of s i = length s.content - i

-- the byte before an offset that a backward step may read
abbrev pub byte_taken_back : Search → ℕ → Option ℕ
byte_taken_back s i = cond (nat_lt (lowest s) i) (slice_get s.content (i - 1)) None

-- a step moves a search to the offset before; at the lowest offset, or below it, the search stays
abbrev pub HasSteppedBack : Search → ℕ → ℕ → Type 0
HasSteppedBack s i j = ((lowest s < i) × (j + 1 ≡ i)) ⊎ ((i ≤ lowest s) × (j ≡ i))

-- the backward step of threads that started at the end of the span, or of the haystack if that is
-- less
abbrev pub IsStepBack : ByteProgram → Search → ℕ → List (ℕ × ℕ) → List (ℕ × ℕ) → Option ℕ → Type 0
IsStepBack p s i nodes next met =
    IsStepAll (back_machine_in p s) (mirror_of s i) (started_at (mirror_of s s.end) nodes)
    (started_at (mirror_of s s.end) next) (end_met_by (mirror_of s s.end) met)

-- a match that ends there, as one of the reversed haystack
abbrev pub mirror_match : Search → HalfFound → PatternMatch
mirror_match s met = record {
  start = mirror_of s s.end;
  pattern = met.pattern;
  end = mirror_of s met.offset;
}

-- a search from a start state is over, with this best match
abbrev pub IsOverBack : ByteProgram → Search → ℕ → Option HalfFound → Type 0
IsOverBack p s q best =
    SearchesAll (back_machine_in p s) (MayBegin (mirrored_search s)) (q, 0) (mirror_of s s.end) []
    None (option_map (mirror_match s) best)

-- a search has reached an offset with threads at these nodes and this best match: the step there,
-- and the search continued after it, give the result of the whole search
abbrev pub HasComeBack : ByteProgram → Search → ℕ → ℕ → List (ℕ × ℕ) → Option HalfFound → Type 0
HasComeBack p s q i nodes best =
    (next : List Started) (ends : List (ℕ × ℕ)) (after out : Option PatternMatch)
    → StepsAll (back_machine_in p s) (mirror_of s i) [] (started_at (mirror_of s s.end) nodes) next
    ends
    → Latest (mirror_of s i) (option_map (mirror_match s) best) ends after
    → SearchesAll (back_machine_in p s) (MayBegin (mirrored_search s)) (q, 0)
    (mirror_of s i + 1) next
    after out
    → SearchesAll (back_machine_in p s) (MayBegin (mirrored_search s)) (q, 0) (mirror_of s s.end) []
    None out

-- a cache of backward searches: the number of nodes of each state of its reverse program, and
-- whether that has assertions
pub record ReverseCacheView : Type 0 where
  pub widths : List ℕ
  pub asks_looks : Bool

-- they are those of this reverse program: without the flag it has no assertion
pub record AreOfReverse (turned : ReverseByteProgram) (widths : List ℕ) (asks_looks : Bool)
    : Type 0 where
  pub widths_are : widths ≡ widths_of (byte_program_of turned)
  pub looks : asks_looks ≡ false → (l : walks.Look) → Asks (byte_program_of turned).states l → ⊥

-- a cache for backward searches with a reverse program
abbrev pub IsReverseCacheOf : ReverseByteProgram → ReverseCacheView → Type 0
IsReverseCacheOf turned cache = AreOfReverse turned cache.widths cache.asks_looks

-- the match to report: the best one, unless it is empty and may not be there
pub record IsHalfToldBack (s : Search) (best answer : Option HalfFound) : Type 0 where
  pub found : Option PatternMatch
  pub is : answer ≡ option_map (λ a. record { pattern = a.pattern; offset = a.start }) found
  pub told : IsToldBack s (option_map (mirror_match s) best) found
