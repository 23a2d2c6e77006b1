-- How far a search with a program has got.
use Rattle.std.specs.Prelude.{◌≡◌, ℕ, ◌<◌, ◌≤◌, ◌⊎◌, Bool, true, false, All, List, [], ◌∷◌, ◌++◌, length, Option, Some, None}
use Rattle.rx_walks.specs.Finds.{Search, up_to_place}
use Rattle.rx_walks.specs.Laws.{MayBegin}
use Rattle.rx_walks.specs.Machines.{Machine, Outcome}
use Rattle.rx_walks.specs.ProgramFinds.{highest}
use Rattle.rx_walks.specs.Steps.{Searches}
use Rattle.rx_program.specs.Programs.{ByteProgram}
use Rattle.rx_steps.specs.Threads.{Slots, Thread, ThreadListView, IsThreadOf, no_slots}
use Rattle.rx_steps.specs.Lists.{slot_machine, met_at}
use Rattle.rx_steps.specs.Searching.{haystack_in}
use Rattle.rx_steps.specs.Standing.{IsReached, WalkStands}

abbrev pub HasSlots : ℕ → Thread → Type 0
HasSlots len thread = length thread.0 ≡ len

-- the machine of a program in a search
abbrev pub machine_in : ByteProgram → Search → Machine (ℕ × ℕ) Slots
machine_in p s = slot_machine p (haystack_in p.line_terminator s)

-- a search with a program, from a start state
pub record Course : Type 0 where
  pub program : ByteProgram
  pub search : Search
  pub node : ℕ

abbrev pub course_of : ByteProgram → Search → ℕ → Course
course_of p s q = record { program = p; search = s; node = q }

-- the search over the span up to an offset
abbrev pub up_to : Course → ℕ → Course
up_to course place = record course { search = up_to_place course.search place }

-- the machine of that search
abbrev pub course_machine : Course → Machine (ℕ × ℕ) Slots
course_machine course = machine_in course.program course.search

-- a search has reached an offset with these threads and this last match end: continued from there,
-- it gives the result of the whole search
abbrev pub HasCome : Machine (ℕ × ℕ) Slots → Search → ℕ → Slots → ℕ → List Thread
    → Option (Outcome Slots) → Type 0
HasCome m s q fresh i live met = (out : Option (Outcome Slots))
    → Searches m (MayBegin s) (λ j. fresh) (q, 0) i live met out
    → Searches m (MayBegin s) (λ j. fresh) (q, 0) s.start [] None out

-- a search is under way: it has reached an offset with these threads, and with the pattern and the
-- slots of the last match end; the slots are empty if none was met
pub record IsUnderWay (course : Course) (i : ℕ) (live : List Thread) (pattern : Option ℕ)
    (slots : Slots) : Type 0 where
  pub end : ℕ
  pub come : HasCome (course_machine course) course.search course.node (no_slots (length slots)) i
      live (met_at end pattern slots)
  pub none_met : pattern ≡ None → slots ≡ no_slots (length slots)
  pub nodes : All (IsThreadOf course.program.states) live
  pub slot_lens : All (HasSlots (length slots)) live
  pub past_end : highest course.search < i → live ≡ []
  pub reached : All (IsReached (course_machine course) course.search course.node i i) live

-- it is under way in each part of the span up to this offset or a later one
abbrev pub IsUnderWayInParts : Course → ℕ → List Thread → Option ℕ → Slots → Type 0
IsUnderWayInParts course i live pattern slots = (k : ℕ) → i ≤ k → k ≤ highest course.search
    → IsUnderWay (up_to course k) i live pattern slots

-- a thread starts at an offset after the others, if no match end was met and a match may begin
-- there
abbrev pub HasStarted : Search → ℕ → ℕ → Option ℕ → ThreadListView → List Thread → Type 0
HasStarted s q i met live threads =
    ((met ≡ None) × MayBegin s i
    × (threads ≡ live.threads ++ (no_slots live.slot_len, (q, 0)) ∷ []))
    ⊎ ((met ≡ None → MayBegin s i → ⊥) × (threads ≡ live.threads))

-- a search is over, with the pattern and the slots of its last match end
pub record IsOver (course : Course) (pattern : Option ℕ) (slots : Slots) : Type 0 where
  pub end : ℕ
  pub searches : Searches (course_machine course) (MayBegin course.search)
      (λ j. no_slots (length slots)) (course.node, 0) course.search.start [] None
      (met_at end pattern slots)
  pub none_met : pattern ≡ None → slots ≡ no_slots (length slots)

-- no match ends in the parts of the span up to an offset from `first` on and before `i`
abbrev pub HasMetNone : Course → ℕ → ℕ → Type 0
HasMetNone course first i =
    (k : ℕ) → first ≤ k → k < i → (slots : Slots) × IsOver (up_to course k) None slots

-- the first match end that was met
pub record IsFirstMet (course : Course) (first end : ℕ) : Type 0 where
  pub inside : end ≤ highest course.search
  pub pattern : ℕ
  pub slots : Slots
  pub met : IsOver (up_to course end) (Some pattern) slots
  pub none_before : HasMetNone course first end

-- what a search knows of the first match end: none was met, or its threads started at that end or
-- before it
abbrev pub KeepsFirst : Course → ℕ → ℕ → Option ℕ → List Thread → Type 0
KeepsFirst course first i None live = HasMetNone course first i
KeepsFirst course first i (Some k) live = (end : ℕ) × IsFirstMet course first end
    × All (IsReached (course_machine course) course.search course.node end i) live

-- after a match end, there is a thread that started at the first one or before it; if none was met
-- before, the offset is that end
pub record StandsSince (course : Course) (first i : ℕ) (met : Option ℕ) : Type 0 where
  pub end : ℕ
  pub first_met : IsFirstMet course first end
  pub stands : WalkStands course.program course.search end i
  pub now : met ≡ None → i ≡ end

-- a search stops at an offset with this result: that of all of its span; or, if any match may be
-- reported and one was found, that of its span up to this offset, before which no match ends
abbrev pub IsOverAt : Bool → Course → ℕ → ℕ → Option ℕ → Slots → Type 0
IsOverAt false course first i pattern slots = IsOver course pattern slots
IsOverAt true course first i None slots = IsOver course None slots
IsOverAt true course first i (Some k) slots = (i ≤ highest course.search)
    × IsOver (up_to course i) (Some k) slots × HasMetNone course first i

-- a search that met a match end stops at an offset: there is a thread that started at the first end
-- or before it; if any match may be reported, the offset is that end
pub record IsStopped (earliest : Bool) (course : Course) (first i : ℕ) : Type 0 where
  pub end : ℕ
  pub first_met : IsFirstMet course first end
  pub stands : WalkStands course.program course.search end i
  pub at_once : earliest ≡ true → i ≡ end
