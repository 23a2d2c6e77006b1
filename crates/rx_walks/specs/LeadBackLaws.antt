-- Laws of leading nodes, found with the reverse program.
use Rattle.std.specs.Prelude.{ℕ, ◌+◌, ◌-◌, ◌<◌, ◌≤◌, ◌↔◌, Bool, List, [], ◌∷◌, ◌++◌, length, Option}
use Rattle.rx_walks.specs.Machines.{Machine}
use Rattle.rx_walks.specs.Programs.{Node, Program, Haystack, over_characters}
use Rattle.rx_walks.specs.ProgramFinds.{first_by}
use Rattle.rx_walks.specs.Bytes.{Automaton, over_bytes}
use Rattle.rx_walks.specs.Laws.{ReadsMembers}
use Rattle.rx_walks.specs.StepsAll.{StepsAll}
use Rattle.rx_walks.specs.Transposed.{NeverReturns}
use Rattle.rx_walks.specs.Reversed.{mirrored, last_by, back_program}
use Rattle.rx_walks.specs.Leading.{LeadsToMatch}
use Rattle.rx_walks.specs.LeadLaws.{IsStepped}
use Rattle.rx_walks.specs.Reached.{Comes, Reached, ReadTo, IsInClosure, ThreadStandsAt}

-- a node leads at an offset exactly if the reverse program, started at some offset, reaches that
-- node there
abbrev pub ReverseTellsLeads : {L S N : Type 0} → (ℕ → ℕ → N → N) → (S → ℕ → Bool) → Program L S
    → Haystack L → Type 0
ReverseTellsLeads put member p h = h.low ≤ length h.content → h.high ≤ length h.content
    → (q i : ℕ) → q < length p.nodes → h.low ≤ i → i ≤ h.high
    → LeadsToMatch (over_characters put (first_by member) p.nodes h) q i
    ↔ ((e : ℕ) × (e ≤ length h.content)
    × Comes (over_characters put (last_by member) (back_program p).nodes (mirrored h))
    (back_program p).start (length h.content - e) q (length h.content - i))

-- if the threads at an offset are at the nodes that reads reach, so they are at the next offset,
-- and the nodes reached here are those to which epsilon transitions lead
abbrev pub ListsHoldReached : {Q N : Type 0} → Machine Q N → Type 0
ListsHoldReached {Q} m = IsStepped m → (start : Q) (i : ℕ) (live next : List (ℕ × Q))
    (ms : List (ℕ × ℕ)) → ((q : Q) → ThreadStandsAt live q ↔ ReadTo m start i q)
    → StepsAll m i [] (live ++ (i, start) ∷ []) next ms
    → ((q : Q) → ThreadStandsAt next q ↔ ReadTo m start (i + 1) q)
    × ((q : Q) → Reached m start i q ↔ IsInClosure m i (ThreadStandsAt (live ++ (i, start) ∷ [])) q)

-- no byte leads to the first state of a node's automaton
abbrev pub NoneReturns : (ℕ → Automaton) → Type 0
NoneReturns step = (q : ℕ) → NeverReturns (step q)

-- then a program over bytes reaches the nodes that the program over characters does
abbrev pub BytesComeAlike : {L S N : Type 0} → (ℕ → ℕ → N → N) → (S → List ℕ → Option ℕ)
    → (ℕ → Automaton) → List (Node L S) → Haystack L → Type 0
BytesComeAlike put first step nodes h = ReadsMembers first step nodes → NoneReturns step
    → (x i z j : ℕ) → Comes (over_characters put first nodes h) x i z j
    ↔ Comes (over_bytes put step nodes h) (x, 0) i (z, 0) j

-- the machine that reads a haystack's bytes backward, from its end
abbrev pub back_machine : {L S N : Type 0} → (ℕ → ℕ → N → N) → (ℕ → Automaton) → Program L S
    → Haystack L → Machine (ℕ × ℕ) N
back_machine put step p h = over_bytes put step (back_program p).nodes (mirrored h)

abbrev pub back_start_of : {L S : Type 0} → Program L S → ℕ × ℕ
back_start_of p = ((back_program p).start, 0)

-- it reads nothing up to its first offset, so there is no thread there; if its threads are at the
-- nodes that reads reach, the leading nodes are those to which epsilon transitions lead
pub record TellsLeads {L S N : Type 0} (put : ℕ → ℕ → N → N) (member : S → ℕ → Bool)
    (step : ℕ → Automaton) (p : Program L S) (h : Haystack L) : Type 0 where
  pub none_at_first : (q : ℕ × ℕ)
      → ReadTo (back_machine put step p h) (back_start_of p) (length h.content - h.high) q → ⊥
  pub leads : (i : ℕ) → h.low ≤ i → i ≤ h.high → (live : List (ℕ × (ℕ × ℕ)))
      → ((q : ℕ × ℕ) → ThreadStandsAt live q
      ↔ ReadTo (back_machine put step p h) (back_start_of p) (length h.content - i) q)
      → (q : ℕ) → q < length p.nodes
      → LeadsToMatch (over_characters put (first_by member) p.nodes h) q i
      ↔ IsInClosure (back_machine put step p h) (length h.content - i)
      (ThreadStandsAt (live ++ (length h.content - i, back_start_of p) ∷ [])) (q, 0)

abbrev pub ListsTellLeads : {L S N : Type 0} → (ℕ → ℕ → N → N) → (S → ℕ → Bool)
    → (ℕ → Automaton) → Program L S → Haystack L → Type 0
ListsTellLeads put member step p h = h.low ≤ length h.content → h.high ≤ length h.content
    → ReadsMembers (last_by member) step (back_program p).nodes → NoneReturns step
    → TellsLeads put member step p h
