use Rattle.std.proofs.Common.{◌≡◌, ◌+◌, ◌≤◌, Bool, true}
use Rattle.rx_walks.specs.Finds.{IsInside}
use Rattle.rx_input.specs.Cursors.{IsSameContent}
use Rattle.rx_steps.specs.Searching.{search_of}
use Rattle.rx_lists.specs.Blocks.{AreBlocks, BlockReaches}
use Rattle.rx_lists.specs.Passes.{IsWalking}
use Rattle.rx_lists.specs.Lists.{AreListedTo, places_left, read_before}
use Rattle.rx_lists.proofs.lists.list_all.Given as goal

-- the matches before the input's position were listed
abbrev pub invariant-loop-progress : goal.invariant-loop-progress
invariant-loop-progress g l = record {
  ready : IsWalking l.program l.walk.stepper.widths l.walk.asks_looks;
  inside : (utf8_empty : Bool) → IsInside (search_of utf8_empty l.fn.input) l.input.position;
  blocks : (utf8_empty : Bool) → AreBlocks l.program (search_of utf8_empty l.fn.input) l.blocks;
  reaches : BlockReaches l.blocks.block l.input.position;
  from : l.progress.from ≤ l.input.position;
  after : l.progress.after ≡ true → l.progress.from ≡ l.input.position;
  listed : AreListedTo l.program (search_of l.of.utf8_empty l.fn.input) l.of.start l.of.slot_len l.progress.found.items l.progress.after l.progress.from l.input.position;
  counted : (utf8_empty : Bool) → l.read + l.fn.blocks.block.top ≤ l.fn.read + l.blocks.block.top + read_before (search_of utf8_empty l.fn.input) l.input.position l.progress.after;
  same : IsSameContent l.fn.input.cursor l.input.cursor;
  asked : l.input.asked ≡ l.fn.input.asked;
}

abbrev pub decreases-loop-progress : goal.decreases-loop-progress
decreases-loop-progress g l = places_left l.fn.input.cursor.content l.input.position l.progress.after
