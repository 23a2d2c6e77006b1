-- The view of a node's body, and what holds of it.
use Rattle.ropey_tree.specs.declared.node.Body.{Body}
use Rattle.ropey_tree.specs.declared.node.Body.TheVariants.{Leaf, Inner}
use Rattle.ropey_tree.specs.Cutting.{IsPiece}
use Rattle.ropey_tree.specs.NodeView.{NodeView}
use Rattle.ropey_tree.specs.Nodes.{leaf_view, inner_view, IsInner}

abbrev pub view_of : Body → NodeView
view_of (Leaf leaf) = leaf_view leaf
view_of (Inner height children) = inner_view height children

abbrev pub IsBody : Body → Type 0
IsBody (Leaf leaf) = IsPiece leaf
IsBody (Inner height children) = IsInner height children
