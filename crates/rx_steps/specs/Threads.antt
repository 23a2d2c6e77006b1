-- Threads: walks at an offset, each at a node and with the slots that it wrote.
use Rattle.std.specs.Prelude.{ℕ, List, [], ◌∷◌, take, drop, set, replicate, Option, Some, None}
use Rattle.rx_program.specs.declared.states.State.{State}
use Rattle.rx_steps.specs.Nodes.{IsNodeIn}

-- for each slot the offset that was written last, if any
abbrev pub Slots : Type 0
Slots = List (Option ℕ)

-- `len` empty slots
abbrev pub no_slots : ℕ → Slots
no_slots len = replicate len None

-- a thread: its slots, and its node
abbrev pub Thread : Type 0
Thread = Slots × (ℕ × ℕ)

-- threads in order of preference, and the number of slots of each
pub record ThreadListView : Type 0 where
  pub slot_len : ℕ
  pub threads : List Thread

-- threads from their nodes, and their slots one thread after the other
abbrev pub threads_of : ℕ → List (ℕ × ℕ) → Slots → List Thread
threads_of n [] slots = []
threads_of n (q ∷ nodes) slots = (take n slots, q) ∷ threads_of n nodes (drop n slots)

-- a thread at a node of a program
abbrev pub IsThreadOf : List State → Thread → Type 0
IsThreadOf states thread = IsNodeIn states thread.1

-- an offset is written into a slot, if there is that slot
abbrev pub note_slot : ℕ → ℕ → Slots → Slots
note_slot slot i slots = set slots slot (Some i)

-- the first node of a state
abbrev pub first_node : ℕ → ℕ × ℕ
first_node q = (q, 0)

-- the current slots, the threads that wait, the next one first, and the size of the stack
pub record Waiting : Type 0 where
  pub slots : Slots
  pub threads : List Thread
  pub size : ℕ

-- a stepper: the number of nodes of each state of its program, its slots, and the number of nodes
-- that it followed
pub record StepperView : Type 0 where
  pub widths : List ℕ
  pub slots : Slots
  pub followed : ℕ
