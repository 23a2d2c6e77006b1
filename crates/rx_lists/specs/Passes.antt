-- The two passes over a haystack.
use Rattle.std.specs.Prelude.{◌≡◌, ℕ, ◌<◌, Bool, false, List, length, Option, Some, None, option_map, slice_get, IfSome}
use Rattle.rx_walks.specs.Looks as walks
use Rattle.rx_walks.specs.Machines.{Outcome}
use Rattle.rx_program.specs.Programs.{ByteProgram}
use Rattle.rx_steps.specs.Nodes.{widths_of}
use Rattle.rx_steps.specs.Lists.{Asks}
use Rattle.rx_steps.specs.Threads.{Slots, Thread}
use Rattle.rx_lists.specs.declared.pass_back.PassBack.{PassBack}
use Rattle.rx_lists.specs.declared.walk.Ending.{Ending}
use Rattle.rx_lists.specs.Arrivals.{TellEdges}
use Rattle.rx_lists.specs.Known.{TellsTruly}
use Rattle.rx_lists.specs.Sets.{AreAllNodes}

-- room for a backward pass with a program
pub record IsReady (p : ByteProgram) (b : PassBack) : Type 0 where
  pub order_is : AreAllNodes p.states b.order.items
  pub index_is : b.index ≡ widths_of p
  pub arrivals : TellEdges p.states (length p.states) b.arrivals
  pub looks : b.asks_looks ≡ false → (l : walks.Look) → Asks p.states l → ⊥
  pub told : b.asks_looks ≡ false → TellsTruly p b.known
  pub numbered : IfSome b.number (λ n. slice_get b.known.sets n ≡ Some b.set.value)
  pub here_are : b.here.widths ≡ widths_of p
  pub beyond_are : b.beyond.widths ≡ widths_of p

-- the index of the first thread at such a node
abbrev pub IsFirstAmong : List Thread → (ℕ × ℕ → Type 0) → Option ℕ → Type 0
IsFirstAmong threads Is None = (k : ℕ) (t : Thread) → slice_get threads k ≡ Some t → Is t.1 → ⊥
IsFirstAmong threads Is (Some n) = (t : Thread) × (slice_get threads n ≡ Some t) × Is t.1
    × ((k : ℕ) (u : Thread) → k < n → slice_get threads k ≡ Some u → Is u.1 → ⊥)

-- room for a forward pass with a program
pub record IsWalking (p : ByteProgram) (widths : List ℕ) (asks_looks : Bool) : Type 0 where
  pub widths_are : widths ≡ widths_of p
  pub looks : asks_looks ≡ false → (l : walks.Look) → Asks p.states l → ⊥

-- the outcome of a walk, from its end and its slots
abbrev pub outcome_of : Option Ending → Slots → Option (Outcome Slots)
outcome_of found slots =
    option_map (λ e. record { pattern = e.pattern; end = e.end; notes = slots }) found
