use Rattle.std.proofs.Common.{◌≡◌, ℕ, ◌+◌, ◌-◌, ◌≤◌, Bool, [], ◌∷◌, Option, length}
use Rattle.rx_walks.specs.Machines.{Outcome}
use Rattle.rx_walks.specs.Finds.{IsInside}
use Rattle.rx_walks.specs.Leading.{Follows}
use Rattle.rx_input.specs.Cursors.{IsSameContent}
use Rattle.rx_steps.specs.Nodes.{IsNodeIn}
use Rattle.rx_steps.specs.Threads.{Slots, no_slots, first_node}
use Rattle.rx_steps.specs.Searching.{search_of}
use Rattle.rx_steps.specs.Coming.{machine_in}
use Rattle.rx_lists.specs.Blocks.{AreBlocks, BlockReaches}
use Rattle.rx_lists.specs.Passes.{IsWalking}
use Rattle.rx_lists.proofs.walk.Walk.follow.Given as goal

-- one thread is at the input's position: what is followed from there is the result
abbrev pub invariant-loop-met : goal.invariant-loop-met
invariant-loop-met g l = record {
  ready : IsWalking l.program l.self.stepper.widths l.self.asks_looks;
  inside : (utf8_empty : Bool) → IsInside (search_of utf8_empty l.fn.input) l.input.position;
  blocks : (utf8_empty : Bool) → AreBlocks l.program (search_of utf8_empty l.fn.input) l.blocks;
  reaches : BlockReaches l.blocks.block l.input.position;
  live : (n : Slots) × (q : ℕ × ℕ) × (l.self.live.threads ≡ (n, q) ∷ []) × IsNodeIn l.program.states q;
  come : (utf8_empty : Bool) (out : Option (Outcome Slots))
      → Follows (machine_in l.program (search_of utf8_empty l.fn.input)) l.input.position [] l.self.live.threads out
      → Follows (machine_in l.program (search_of utf8_empty l.fn.input)) l.fn.input.position [] ((no_slots l.slot_len, first_node l.fn.start) ∷ []) out;
  from : l.fn.input.position ≤ l.input.position;
  counted : l.read + l.fn.blocks.block.top + l.fn.input.position ≤ l.fn.read + l.blocks.block.top + l.input.position;
  same : IsSameContent l.fn.input.cursor l.input.cursor;
  asked : l.input.asked ≡ l.fn.input.asked;
}

abbrev pub decreases-loop-met : goal.decreases-loop-met
decreases-loop-met g l = length l.fn.input.cursor.content - l.input.position
