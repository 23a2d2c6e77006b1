-- What walks reach.
use Rattle.std.specs.Prelude.{◌≡◌, ℕ, ◌≤◌, Bool, true, List, Some, slice_get}
use Rattle.rx_walks.specs.Machines.{Machine, goes, reads}
use Rattle.rx_walks.specs.Finds.{Search}
use Rattle.rx_walks.specs.Laws.{MayBegin}
use Rattle.rx_walks.specs.ProgramFinds.{start_node}
use Rattle.rx_program.specs.Programs.{ByteProgram, character_program}
use Rattle.rx_steps.specs.Threads.{Slots, Thread}
use Rattle.rx_steps.specs.Lists.{slot_machine}
use Rattle.rx_steps.specs.Searching.{haystack_in, IsFirstEnd}

-- epsilon transitions and reads lead from a node at an offset to a node at an offset
pub data Leads {Q N : Type 0} (m : Machine Q N) (q : Q) (i : ℕ) : Q → ℕ → Type 0 where
  at_once : Leads m q i q i
  by_edge : {r : Q} {j : ℕ} (rs : List Q) (t : Q) (k : ℕ) → Leads m q i r j → m.move j r ≡ goes rs
      → slice_get rs k ≡ Some t → Leads m q i t j
  by_read : {r : Q} {j : ℕ} (t : Q) (k : ℕ) → Leads m q i r j → m.move j r ≡ reads t k
      → Leads m q i t k

-- a walk reaches a thread's node, from a start node at an offset up to `last` at which a match may
-- begin
abbrev pub IsReached : Machine (ℕ × ℕ) Slots → Search → ℕ → ℕ → ℕ → Thread → Type 0
IsReached m s q last i thread =
    (j : ℕ) × (j ≤ last) × MayBegin s j × Leads m (q, 0) j thread.1 i

-- a walk of the program that started where a match may begin, at an offset or before it, reaches an
-- offset
pub record WalkStands (p : ByteProgram) (s : Search) (last i : ℕ) : Type 0 where
  pub start : ℕ
  pub starts : start_node (character_program p) s.anchoring ≡ Some start
  pub thread : Thread
  pub reached : IsReached (slot_machine p (haystack_in p.line_terminator s)) s start last i thread

-- a search that found a match stops at this offset: a walk reaches it that started at the first
-- match end or before it; if any match may be reported, it is that end
pub record StopsAt (earliest : Bool) (p : ByteProgram) (s : Search) (i : ℕ) : Type 0 where
  pub first : ℕ
  pub first_end : IsFirstEnd p s first
  pub stands : WalkStands p s first i
  pub at_once : earliest ≡ true → i ≡ first
