-- The view of a node in contracts.
use Rattle.std.specs.Prelude.{ℕ, List}

-- its leaf texts (pieces), its height above the leaves, and the number of its children; a leaf
-- counts as 12, because no leaf is too small
pub record NodeView : Type 0 where
  pub pieces : List (List ℕ)
  pub height : ℕ
  pub degree : ℕ
