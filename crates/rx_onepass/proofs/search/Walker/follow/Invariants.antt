use Rattle.std.proofs.Common.{◌≡◌, ◌-◌, length}
use Rattle.rx_input.specs.Cursors.{IsSameContent}
use Rattle.rx_walks.specs.Finds.{IsInside}
use Rattle.rx_steps.specs.Searching.{search_of}
use Rattle.rx_onepass.specs.Alone.{IsAlone}
use Rattle.rx_onepass.specs.Caches.{IsMadeFor}
use Rattle.rx_onepass.proofs.search.Walker.follow.Given as goal

-- a single thread has reached the input's position
abbrev pub invariant-loop-way : goal.invariant-loop-way
invariant-loop-way g l = record {
  made : IsMadeFor l.program l.self.stepper.widths l.self.asks_looks l.self.slot_len l.self.edges;
  slot_len : l.self.slot_len ≡ length l.fn.slots;
  inside : IsInside (search_of l.utf8_empty l.fn.input) l.input.position;
  alone : IsAlone l.program (search_of l.utf8_empty l.fn.input) l.program.start (length l.fn.slots) l.input.position l.slots l.node;
  same : IsSameContent l.fn.input.cursor l.input.cursor;
  asked : l.input.asked ≡ l.fn.input.asked;
}

abbrev pub decreases-loop-way : goal.decreases-loop-way
decreases-loop-way g l = length l.fn.input.cursor.content - l.input.position
