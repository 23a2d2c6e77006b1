-- The views of nodes in a row.
use Rattle.std.specs.Prelude.{ℕ, ◌+◌, ◌*◌, max, List, [], ◌∷◌, map}
use Rattle.std.specs.declared.rc.Rc.{Rc}
use Rattle.std.specs.declared.alloc.Global.{Global}
use Rattle.ropey_tree.specs.declared.node.Node.{Node}
use Rattle.ropey_tree.specs.NodeView.{NodeView}

-- the views of sibling nodes
abbrev pub views : List (Rc Node Global) → List NodeView
views nodes = map (λ node. node.value) nodes

-- one more than twice the greatest height: it is greater than for each child
abbrev pub tallest : List NodeView → ℕ
tallest [] = 0
tallest (v ∷ vs) = max (2 * v.height + 1) (tallest vs)
