-- Leaves of a text that is still growing.
use Rattle.std.specs.Prelude.{◌≡◌, ℕ, false, List, ◌++◌, All}
use Rattle.std.specs.List.{concat}
use Rattle.ropey_tree.specs.Cutting.{IsCutting, IsFull, cuts_cr_lf}
use Rattle.ropey_tree.specs.NodeView.{NodeView}
use Rattle.ropey_tree.specs.Nodes.{AreNodes, all_pieces}

-- full leaves before a text; no CR LF spans their end, whatever follows
pub record IsCutBefore (rest : List ℕ) (leaves : List NodeView) : Type 0 where
  pub nodes : AreNodes 0 12 leaves
  pub cut : IsCutting (all_pieces leaves)
  pub full : All IsFull (all_pieces leaves)
  pub whole : (next : List ℕ) → cuts_cr_lf (concat (all_pieces leaves)) (rest ++ next) ≡ false

-- a growing text, and what it was at a mark
pub record MarkedText : Type 0 where
  pub text : List ℕ
  pub mark : List ℕ
