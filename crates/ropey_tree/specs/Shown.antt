-- Nodes in a row, with running totals.
use Rattle.std.specs.Prelude.{◌≡◌, ℕ, ◌+◌, ◌<◌, ◌≤◌, List, length, slice_index_or, take}
use Rattle.ropey_tree.specs.declared.counts.Counts.{Counts}
use Rattle.ropey_tree.specs.Counts.{total}
use Rattle.ropey_tree.specs.NodeView.{NodeView}
use Rattle.ropey_tree.specs.Nodes.{all_pieces}

-- for each node in a row the counts of all up to and including it
pub record AreTotals (nodes : List NodeView) (totals : List Counts) : Type 0 where
  pub number : length totals ≡ length nodes
  pub running : (k : ℕ) (d : Counts) → k < length nodes
      → slice_index_or totals k d ≡ total (all_pieces (take (k + 1) nodes))

-- at most 24 nodes, and their running totals
pub record AreInStep (nodes : List NodeView) (totals : List Counts) : Type 0 where
  pub few : length nodes ≤ 24
  pub counted : AreTotals nodes totals
