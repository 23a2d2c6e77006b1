-- How far a search for all matches with a program has got.
use Rattle.std.specs.Prelude.{◌≡◌, ℕ, ◌<◌, ◌≤◌, ◌⊎◌, Bool, true, false, All, List, [], ◌∷◌, ◌++◌, Option, Some, None, option_map}
use Rattle.rx_util.specs.Search.{Found}
use Rattle.rx_walks.specs.Finds.{Search, PatternMatch}
use Rattle.rx_walks.specs.Laws.{MayBegin}
use Rattle.rx_walks.specs.Machines.{Machine}
use Rattle.rx_walks.specs.Programs.{Notes}
use Rattle.rx_walks.specs.ProgramFinds.{highest}
use Rattle.rx_walks.specs.StepsAll.{SearchesAll}
use Rattle.rx_program.specs.Programs.{ByteProgram}
use Rattle.rx_steps.specs.Searching.{haystack_in}
use Rattle.rx_steps.specs.ListsAll.{Started, IsStartedOf, byte_machine}
use Rattle.rx_steps.specs.SearchingAll.{pattern_match}
use Rattle.rx_steps.specs.Coming.{Course, up_to}

-- the machine of a program in a search
abbrev pub byte_machine_in : ByteProgram → Search → Machine (ℕ × ℕ) Notes
byte_machine_in p s = byte_machine p (haystack_in p.line_terminator s)

-- the machine of such a search
abbrev pub course_byte_machine : Course → Machine (ℕ × ℕ) Notes
course_byte_machine course = byte_machine_in course.program course.search

-- a thread started here or before
abbrev pub BeganBy : ℕ → Started → Type 0
BeganBy i thread = thread.0 ≤ i

-- the search is over, with this best match
abbrev pub IsOverAll : Course → Option Found → Type 0
IsOverAll course best =
    SearchesAll (course_byte_machine course) (MayBegin course.search) (course.node, 0)
    course.search.start [] None (option_map pattern_match best)

-- a search is under way: it has reached an offset with these threads and this best match; continued
-- from there, it gives the result of the whole search
pub record IsUnderWayAll (course : Course) (i : ℕ) (live : List Started) (best : Option Found)
    : Type 0 where
  pub come : (out : Option PatternMatch)
      → SearchesAll (course_byte_machine course) (MayBegin course.search) (course.node, 0) i live
      (option_map pattern_match best) out
      → SearchesAll (course_byte_machine course) (MayBegin course.search) (course.node, 0)
      course.search.start [] None out
  pub nodes : All (IsStartedOf course.program.states) live
  pub began : All (BeganBy i) live
  pub past_end : highest course.search < i → live ≡ []

-- it is under way in each part of the span up to this offset or a later one
abbrev pub IsUnderWayAllInParts : Course → ℕ → List Started → Option Found → Type 0
IsUnderWayAllInParts course i live best = (k : ℕ) → i ≤ k → k ≤ highest course.search
    → IsUnderWayAll (up_to course k) i live best

-- a thread starts at an offset after the others, if a match may begin there
abbrev pub HasStartedAll : Search → ℕ → ℕ → List Started → List Started → Type 0
HasStartedAll s q i live threads =
    (MayBegin s i × (threads ≡ live ++ (i, (q, 0)) ∷ []))
    ⊎ ((MayBegin s i → ⊥) × (threads ≡ live))

-- no match ends in the parts of the span up to an offset from `first` on and before `i`
abbrev pub HasMetNoneAll : Course → ℕ → ℕ → Type 0
HasMetNoneAll course first i = (k : ℕ) → first ≤ k → k < i → IsOverAll (up_to course k) None

-- a search stops at an offset with this result: that of all of its span; or, if any match may be
-- reported and one was found, that of its span up to this offset, where that match ends and before
-- which none does
abbrev pub IsOverAllAt : Bool → Course → ℕ → ℕ → Option Found → Type 0
IsOverAllAt false course first i best = IsOverAll course best
IsOverAllAt true course first i None = IsOverAll course None
IsOverAllAt true course first i (Some found) = (found.span.end ≡ i)
    × (i ≤ highest course.search) × IsOverAll (up_to course i) (Some found)
    × HasMetNoneAll course first i
