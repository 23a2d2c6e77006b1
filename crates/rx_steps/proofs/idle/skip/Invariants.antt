use Rattle.std.proofs.Common.{ℕ, ◌≡◌, ◌-◌, ◌<◌, ◌≤◌, length}
use Rattle.rx_walks.specs.Finds.{IsInside}
use Rattle.rx_input.specs.Cursors.{IsSameContent}
use Rattle.rx_steps.specs.Idle.{IsPassedAt}
use Rattle.rx_steps.specs.Searching.{search_of}
use Rattle.rx_steps.proofs.idle.skip.Given as goal

-- all bytes from the first offset on can be skipped
abbrev pub invariant-loop-utf8_empty : goal.invariant-loop-utf8_empty
invariant-loop-utf8_empty g l = record {
  above : l.fn.input.position ≤ l.input.position;
  inside : IsInside (search_of l.utf8_empty l.fn.input) l.fn.input.position → IsInside (search_of l.utf8_empty l.fn.input) l.input.position;
  passed : (k : ℕ) → l.fn.input.position ≤ k → k < l.input.position → IsPassedAt l.idle l.utf8_empty l.fn.input.cursor.content k;
  same : IsSameContent l.fn.input.cursor l.input.cursor;
  asked : l.input.asked ≡ l.fn.input.asked;
}

abbrev pub decreases-loop-utf8_empty : goal.decreases-loop-utf8_empty
decreases-loop-utf8_empty g l = length l.fn.input.cursor.content - l.input.position
