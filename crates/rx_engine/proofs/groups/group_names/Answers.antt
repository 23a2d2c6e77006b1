use Rattle.std.proofs.Common.{◌≡◌, ◌+◌, [], length, map, take, replicate, None, vec_len, refl, sym, ap, subst, ◌∙◌, arith}
use Rattle.std.proofs.lemmas.Grind.{common_steps}
use Rattle.rx_grammar.specs.Nodes.{kind_of}
use Rattle.rx_grammar.specs.Postorder.{tree_of}
use Rattle.rx_util.specs.Groups.{names_of}
use Rattle.rx_engine.proofs.GroupLaws.{AreNamesAmong, none_named, node_of, place_of, named_more, unnamed_more, all_named, all_taken, names_of-none, names_of-set, names_of-length}
use Rattle.rx_engine.proofs.groups.group_names.Goals.{in-Some+in_ok-name, in_default}
use Rattle.rx_engine.proofs.groups.group_names.Goals as goal

pub loop-node-init : goal.loop-node-init
loop-node-init c =
    none_named (tree_of c.args.hir.now) [] (names_of c.in_ok-names.names.items) refl
    (names_of-none _ c.in_ok-names.names.items (c.in_ok-names.ensures ∙ ap (λ n. replicate n None) c.group_count.ensures.count))

pub overflow_sub-number : goal.overflow_sub-number
overflow_sub-number c =
    let tree = tree_of c.args.hir.now in
    let nodes = c.nodes-node-items.result.now in
    let exact = c.nodes-node-items.ensures.nodes ∙ c.nodes-node-items.ensures.exact in
    let at = node_of tree nodes c.loop-node.node-index c.node-item.result exact c.loop-node-test.true c.node-item.is in
    (place_of tree nodes c.loop-node.node-index c.node-item.result c.in-Some.number c.in-Some.name.now c.nodes-node-items.ensures.well_formed at c.in-Some.ensures).0

pub note_name-requires : goal.note_name-requires
note_name-requires c =
    let tree = tree_of c.args.hir.now in
    let nodes = c.nodes-node-items.result.now in
    let exact = c.nodes-node-items.ensures.nodes ∙ c.nodes-node-items.ensures.exact in
    let at = node_of tree nodes c.loop-node.node-index c.node-item.result exact c.loop-node-test.true c.node-item.is in
    let place = place_of tree nodes c.loop-node.node-index c.node-item.result c.in-Some.number c.in-Some.name.now c.nodes-node-items.ensures.well_formed at c.in-Some.ensures in
    let long : length c.loop-node.names.items ≡ vec_len c.loop-node.names = grind (arith, common_steps) in
    omega (arith, place.0, place.1, c.loop-node.invariant.count, names_of-length c.loop-node.names.items, long)

pub loop-node-preserved : goal.loop-node-preserved
loop-node-preserved c =
    let tree = tree_of c.args.hir.now in
    let nodes = c.nodes-node-items.result.now in
    let exact = c.nodes-node-items.ensures.nodes ∙ c.nodes-node-items.ensures.exact in
    let at = node_of tree nodes c.loop-node.node-index c.node-item.result exact c.loop-node-test.true c.node-item.is in
    elim c.match-named_group.branch [
      | in-Some+in_ok-name w ↦
          named_more tree nodes c.loop-node.node-index c.node-item.result w.in-Some.number w.in-Some.name.now (names_of c.loop-node.names.items) (names_of c.match-named_group.names.items)
          c.nodes-node-items.ensures.well_formed at w.in-Some.ensures c.loop-node.invariant
          (names_of-set c.loop-node.names.items c.match-named_group.names.items _ w.in_ok-name.name w.in-Some.name.now (ap (λ v. v.items) w.names-is ∙ w.note_name.ensures) w.in_ok-name.ensures.ok)
      | in_default w ↦
          subst (λ v. AreNamesAmong tree (map kind_of (take (c.loop-node.node-index + 1) nodes)) (names_of v.items)) (sym w.names-is)
          (unnamed_more tree nodes c.loop-node.node-index c.node-item.result (names_of c.loop-node.names.items) at w.in_default.ensures c.loop-node.invariant)
    ]

pub returns-clause-names : goal.returns-clause-names
returns-clause-names c =
    let exact = c.nodes-node-items.ensures.nodes ∙ c.nodes-node-items.ensures.exact in
    all_named (tree_of c.args.hir.now) _ (names_of c.loop-node.names.items) (all_taken c.nodes-node-items.result.now c.loop-node.node-index c.loop-node-test.false ∙ exact) c.loop-node.invariant
