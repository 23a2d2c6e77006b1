-- The number of leaf texts below a node of some height, and the greatest height of a node.
use Rattle.std.proofs.Common.{◌≡◌, ℕ, suc, ◌+◌, ◌*◌, ◌^◌, ◌≤◌, List, [], ◌∷◌, length, ap, arith, length-append, ◌∙◌}
use Rattle.std.proofs.Math.Nat.{pow-suc, pow-le-pow_right, mul-le-mul_left, mul-le-mul_right}
use Rattle.std.proofs.lemmas.List.Sums.{sum_by-cons}
use Rattle.std.proofs.lemmas.List.Elements.{All-head, All-tail}
use Rattle.std.proofs.lemmas.List.Concat.{flat_map-cons}
use Rattle.str_indices.specs.Text.{byte_len}
use Rattle.ropey_tree.specs.Counts.{total}
use Rattle.ropey_tree.specs.Cutting.{IsCutting}
use Rattle.ropey_tree.specs.NodeView.{NodeView}
use Rattle.ropey_tree.specs.Nodes.{all_pieces, AreNodes, IsNodeOf, IsTree, IsInner, inner_view}

-- each child has at least that many leaf texts
pub many_below : (below : ℕ) (vs : List NodeView) → AreNodes below 12 vs → length vs * 12 ^ below ≤ length (all_pieces vs)
many_below below [] h = omega arith
many_below below (v ∷ vs) h =
    let head = All-head (IsNodeOf below 12) v vs h in
    let rest = many_below below vs (All-tail (IsNodeOf below 12) v vs h) in
    let level : v.height ≡ below = head.level in
    let many : v.degree * 12 ^ below ≤ 12 * length v.pieces = rw level at head.many in
    let full : 12 ^ below * 12 ≤ 12 ^ below * v.degree = mul-le-mul_left (12 ^ below) head.full in
    let parts : length (all_pieces (v ∷ vs)) ≡ length v.pieces + length (all_pieces vs) = ap length (flat_map-cons (λ w. w.pieces) v vs) ∙ length-append v.pieces (all_pieces vs) in
    grind arith

-- a leaf text isn't empty
pub pieces-le-bytes : (ps : List (List ℕ)) → IsCutting ps → length ps ≤ (total ps).bytes
pieces-le-bytes [] h = omega arith
pieces-le-bytes (p ∷ []) h = omega (arith, sum_by-cons byte_len p [], h.not_empty)
pieces-le-bytes (p ∷ q ∷ ps) h = omega (arith, sum_by-cons byte_len p (q ∷ ps), h.0.not_empty, pieces-le-bytes (q ∷ ps) h.2)

pub inner_tree : (height : ℕ) (children : List NodeView) → IsInner height children → IsTree (inner_view height children)
inner_tree height children h =
    let many = many_below h.below children h.nodes in
    let level : height ≡ suc h.below = omega (arith, h.level) in
    let power : 12 ^ height ≡ 12 ^ h.below * 12 = ap (λ n. 12 ^ n) level ∙ pow-suc 12 h.below in
    let product : length children * (12 ^ h.below * 12) ≤ 12 * length (all_pieces children) = omega (arith, many) in
    record { text = h.text; branches = h.branches; many = rw power product }

-- twelve children everywhere but at the root
pub height-le : (v : NodeView) → IsTree v → v.height ≤ 18
height-le v h =
    let high : 19 ≤ v.height → 12 ^ 19 ≤ 12 ^ v.height = λ p. pow-le-pow_right {n = 12} (omega arith) p in
    let two : 2 * 12 ^ v.height ≤ v.degree * 12 ^ v.height = mul-le-mul_right (12 ^ v.height) h.branches in
    let few = pieces-le-bytes v.pieces h.text.cut in
    grind (arith, high, two, few, h.many, h.text.fits)
