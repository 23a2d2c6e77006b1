-- A node is higher than its children: the measure of a descent.
use Rattle.std.proofs.Common.{◌≡◌, ℕ, ◌+◌, ◌*◌, ◌≤◌, max, List, [], ◌∷◌, arith}
use Rattle.std.proofs.lemmas.List.Elements.{All-head, All-tail}
use Rattle.std.specs.declared.rc.Rc.{Rc}
use Rattle.std.specs.declared.alloc.Global.{Global}
use denote.Param.Weighed.{most}
use Rattle.ropey_tree.specs.declared.node.Node.{Node}
use Rattle.ropey_tree.specs.declared.node.Body.{Body}
use Rattle.ropey_tree.specs.declared.node.Body.TheVariants.{Leaf, Inner}
use Rattle.ropey_tree.specs.declared.children.Children.TheDeep.{deep-Body}
use Rattle.ropey_tree.specs.NodeView.{NodeView}
use Rattle.ropey_tree.specs.Nodes.{AreNodes, IsNodeOf}
use Rattle.ropey_tree.specs.Children.{views, tallest}
use Rattle.ropey_tree.specs.Bodies.{view_of, IsBody}

pub most_le-tallest : (nodes : List (Rc Node Global)) → most (λ node. 2 * node.value.height + 1) nodes ≤ tallest (views nodes)
most_le-tallest [] = omega arith
most_le-tallest (node ∷ nodes) = omega (arith, most_le-tallest nodes)

tallest_le : (below : ℕ) (vs : List NodeView) → AreNodes below 12 vs → tallest vs ≤ 2 * below + 1
tallest_le below [] h = omega arith
tallest_le below (v ∷ vs) h =
    let level : v.height ≡ below = (All-head (IsNodeOf below 12) v vs h).level in
    omega (arith, tallest_le below vs (All-tail (IsNodeOf below 12) v vs h))

pub deep_le-height : (body : Body) → IsBody body → max (deep-Body body) 0 ≤ 2 * (view_of body).height
deep_le-height (Leaf leaf) h = omega arith
deep_le-height (Inner height children) h = omega (arith, h.level, tallest_le h.below children h.nodes)
