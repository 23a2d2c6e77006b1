use Rattle.std.proofs.Common.{◌≡◌, ◌+◌, ◌<◌, ℕ, length, get_or}
use Rattle.rx_input.specs.Cursors.{IsSameContent}
use Rattle.rx_literals.proofs.literal.occurs_at.Given as goal

abbrev pub invariant-loop-index : goal.invariant-loop-index
invariant-loop-index g l = record {
  same : IsSameContent l.fn.input.cursor l.input.cursor;
  asked : l.input.asked ≡ l.fn.input.asked;
  inside : (j : ℕ) → j < l.index → l.at + j < length l.fn.input.cursor.content;
  reads : (j : ℕ) → j < l.index → get_or l.fn.input.cursor.content (l.at + j) 0 ≡ get_or l.needle j 0;
}
