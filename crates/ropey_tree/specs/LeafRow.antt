-- What an edit inside one leaf makes of it, and of the nodes above.
use Rattle.std.specs.Prelude.{◌≡◌, ℕ, ◌<◌, suc, List, [], ◌∷◌, ◌++◌, take, drop}
use Rattle.str_indices.specs.Text.{byte_len}
use Rattle.ropey_tree.specs.Counts.{counts_of}
use Rattle.ropey_tree.specs.declared.edits.Leaves.{Leaves}
use Rattle.ropey_tree.specs.declared.edits.Leaves.TheVariants.{One, Two}
use Rattle.ropey_tree.specs.NodeView.{NodeView}
use Rattle.ropey_tree.specs.Nodes.{all_pieces}
use Rattle.ropey_tree.specs.Edits.{AreEdited, AreInPlaceOf, MadeFor}

-- the texts of one leaf or two
abbrev pub leaves_of : Leaves → List (List ℕ)
leaves_of (One leaf counts) = leaf ∷ []
leaves_of (Two front counts back more) = front ∷ back ∷ []

-- one leaf of fewer than 984 bytes and its counts, or two leaves and theirs
abbrev pub AreLeavesCounted : Leaves → Type 0
AreLeavesCounted (One leaf counts) = (counts ≡ counts_of leaf) × (byte_len leaf < 984)
AreLeavesCounted (Two front counts back more) = (counts ≡ counts_of front) × (more ≡ counts_of back)

-- a row with others in place of the node at an index
abbrev pub row_with : ℕ → List NodeView → List NodeView → List NodeView
row_with k others row = take k row ++ others ++ drop (suc k) row

-- nodes that replace a node after an edit of one of its leaf texts, and the number of nodes made
-- for them
pub record IsReplacedBy (v : NodeView) (from to : ℕ) (text : List ℕ) (made : ℕ)
    (nodes : List NodeView) : Type 0 where
  pub edited : AreEdited v from to text (all_pieces nodes)
  pub in_place : AreInPlaceOf v edited.leaves nodes
  pub counted : MadeFor made v.height edited.leaves
