-- The contents of a node.
use Rattle.std.specs.Prelude.{◌≡◌}
use Rattle.ropey_tree.specs.declared.node.Parts.{Parts}
use Rattle.ropey_tree.specs.declared.node.Parts.TheVariants.{Leaf, Inner}
use Rattle.ropey_tree.specs.Cutting.{IsPiece}
use Rattle.ropey_tree.specs.NodeView.{NodeView}
use Rattle.ropey_tree.specs.Nodes.{leaf_view, inner_view, IsInner}

-- a leaf with its text, or children of a node of that height
abbrev pub ShowsParts : NodeView → Parts → Type 0
ShowsParts v (Leaf leaf) = (v ≡ leaf_view leaf.now) × IsPiece leaf.now
ShowsParts v (Inner children) = (v ≡ inner_view v.height children.now) × IsInner v.height children.now
