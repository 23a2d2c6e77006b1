-- The work of descending a tree.
use Rattle.std.specs.Prelude.{ℕ}

-- the number of nodes that were entered, and of running totals that were compared
pub record Visited : Type 0 where
  pub nodes : ℕ
  pub comparisons : ℕ
