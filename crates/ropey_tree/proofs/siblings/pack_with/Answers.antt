use Rattle.std.proofs.Common.{◌≡◌, ℕ, suc, ◌+◌, ◌-◌, List, [], ◌∷◌, ◌++◌, take, drop, ap, ◌∙◌, arith, append_assoc}
use Rattle.std.proofs.lemmas.List.{append-nil, take_rest}
use Rattle.ropey_tree.specs.LeafRow.{row_with}
use Rattle.ropey_tree.specs.NodeView.{NodeView}
use Rattle.ropey_tree.specs.Nodes.{IsInner}
use Rattle.ropey_tree.specs.Siblings.{AreSiblings}
use Rattle.ropey_tree.proofs.Packing.{front_inner, packed_one}
use Rattle.ropey_tree.proofs.siblings.pack_with.Goals as goal
use Rattle.ropey_tree.proofs.siblings.pack_with.Goals.{In_ok-row-in-Two-3}

inner_of : (height : ℕ) (row : List NodeView) → AreSiblings height row → IsInner height row
inner_of height row h = front_inner height row row [] h (append-nil row) h.branches

row_is : (c : In_ok-row-in-Two-3) → c.in_ok-row-in-Two-3.row.nodes ≡ row_with c.args.index (c.in-Two.first.value ∷ c.in-Two.second.value ∷ []) c.args.children.now
row_is c =
    let children = c.args.children.now in
    let index = c.args.index in
    let v = c.in-Two.first.value in
    let w = c.in-Two.second.value in
    let start : index - 0 ≡ index = omega arith in
    let next : index + 1 ≡ suc index = omega arith in
    let front = c.in_ok-row-in-Two.ensures.nodes ∙ ap (λ us. us ++ take (index - 0) children) c.in_ok-new-in-Two.ensures.nodes ∙ ap (λ n. take n children) start in
    let both = c.in_ok-row-in-Two-2.ensures.nodes ∙ ap (λ us. us ++ w ∷ []) (c.in_ok-with-in-Two.ensures.nodes ∙ ap (λ us. us ++ v ∷ []) front) ∙ append_assoc (take index children) (v ∷ []) (w ∷ []) in
    let rest = ap (λ n. take (n - (index + 1)) (drop (index + 1) children)) c.len-len.ensures.value ∙ take_rest children (index + 1) ∙ ap (λ n. drop n children) next in
    c.in_ok-row-in-Two-3.ensures.nodes ∙ ap (λ us. us ++ take (c.len-len.result - (index + 1)) (drop (index + 1) children)) both ∙ ap (λ us. take index children ++ (v ∷ w ∷ []) ++ us) rest

pub pack-requires-clause-nodes : goal.pack-requires-clause-nodes
pack-requires-clause-nodes c =
    let h = rw c.in-Two.is at c.requires.nodes in
    rw (row_is (goal.at.pack-requires-clause-nodes c).In_ok-row-in-Two-3) h

pub returns-in_ok-only-in-One-clause-packed : goal.returns-in_ok-only-in-One-clause-packed
returns-in_ok-only-in-One-clause-packed c =
    let row = row_with c.args.index (c.in-One.node.value ∷ []) c.args.children.now in
    let h = rw c.in-One.is at c.requires.nodes in
    let node = rw c.in_ok-children-in-One.ensures at c.in_ok-only-in-One.ensures.node in
    rw c.in-One.is (packed_one c.args.height row c.in_ok-only-in-One.only.value h (inner_of c.args.height row h) node)

pub returns-in_ok-joined-in-Two-clause-packed : goal.returns-in_ok-joined-in-Two-clause-packed
returns-in_ok-joined-in-Two-clause-packed c =
    let is = row_is (goal.at.returns-in_ok-joined-in-Two-clause-packed c).In_ok-row-in-Two-3 in
    let packed = rw is at c.in_ok-joined-in-Two.ensures.packed in
    rw c.in-Two.is packed

pub returns-in_ok-joined-in-Two-clause-one : goal.returns-in_ok-joined-in-Two-clause-one
returns-in_ok-joined-in-Two-clause-one c =
    let is = row_is (goal.at.returns-in_ok-joined-in-Two-clause-one c).In_ok-row-in-Two-3 in
    let one = rw is at c.in_ok-joined-in-Two.ensures.one in
    rw c.in-Two.is one
