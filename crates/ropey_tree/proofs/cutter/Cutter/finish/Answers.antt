use Rattle.std.proofs.Common.{◌∷◌, [], ap, ◌∙◌, arith}
use Rattle.std.proofs.lemmas.List.{map-append}
use Rattle.ropey_tree.specs.Nodes.{all_pieces}
use Rattle.ropey_tree.specs.Siblings.{views}
use Rattle.ropey_tree.proofs.Filling.{no_rest, all_full, leaf_nodes, leaf_text, leaf_cut, leaf_full}
use Rattle.ropey_tree.proofs.cutter.Cutter.finish.Goals as goal

pub returns-then-room-eq-MAX_BYTES-clause-text : goal.returns-then-room-eq-MAX_BYTES-clause-text
returns-then-room-eq-MAX_BYTES-clause-text c =
    no_rest (views c.self.inside.leaves.items) c.self.inside.rest (omega (arith, c.room.ensures, c.if-room-eq-MAX_BYTES.true)) ∙ c.self.view_is

pub returns-clause-leaves : goal.returns-clause-leaves
returns-clause-leaves c =
    let pushed = ap views c.in_ok-push.ensures.items ∙ map-append (λ node. node.value) c.self.inside.leaves.items (c.in_ok-leaf_node.field-0 ∷ []) in
    let leaf = c.in_ok-leaf_node.ensures in
    rw pushed (leaf_nodes (views c.self.inside.leaves.items) c.in_ok-leaf_node.field-0.value c.self.inside.rest leaf.node leaf.piece c.self.invariant)

pub returns-clause-text : goal.returns-clause-text
returns-clause-text c =
    let pushed = ap views c.in_ok-push.ensures.items ∙ map-append (λ node. node.value) c.self.inside.leaves.items (c.in_ok-leaf_node.field-0 ∷ []) in
    let leaf = c.in_ok-leaf_node.ensures in
    rw pushed (leaf_text (views c.self.inside.leaves.items) c.in_ok-leaf_node.field-0.value c.self.inside.rest leaf.node leaf.piece c.self.invariant ∙ c.self.view_is)

pub returns-clause-cut : goal.returns-clause-cut
returns-clause-cut c =
    let pushed = ap views c.in_ok-push.ensures.items ∙ map-append (λ node. node.value) c.self.inside.leaves.items (c.in_ok-leaf_node.field-0 ∷ []) in
    let leaf = c.in_ok-leaf_node.ensures in
    rw pushed (leaf_cut (views c.self.inside.leaves.items) c.in_ok-leaf_node.field-0.value c.self.inside.rest leaf.node leaf.piece c.self.invariant)

pub returns-then-room-eq-MAX_BYTES-clause-full : goal.returns-then-room-eq-MAX_BYTES-clause-full
returns-then-room-eq-MAX_BYTES-clause-full c = all_full (all_pieces (views c.self.inside.leaves.items)) c.self.invariant.full

pub returns-clause-full : goal.returns-clause-full
returns-clause-full c =
    let pushed = ap views c.in_ok-push.ensures.items ∙ map-append (λ node. node.value) c.self.inside.leaves.items (c.in_ok-leaf_node.field-0 ∷ []) in
    let leaf = c.in_ok-leaf_node.ensures in
    rw pushed (leaf_full (views c.self.inside.leaves.items) c.in_ok-leaf_node.field-0.value c.self.inside.rest leaf.node leaf.piece c.self.invariant)
