use Rattle.std.proofs.Common.{◌≡◌, Contains, Some, map, sym, ap, subst, ◌∙◌}
use Rattle.rx_grammar.specs.Subtrees.{a_group, nodes_of}
use Rattle.rx_grammar.specs.Postorder.{tree_of}
use Rattle.rx_grammar.specs.Nodes.{kind_of}
use Rattle.rx_grammar.proofs.NameLaws.{found_at, none_more, none_all}
use Rattle.rx_grammar.proofs.hir.Hir.group_name.Goals as goal

pub returns-in-Some : goal.returns-in-Some
returns-in-Some c =
    let nodes = c.deref-node-items.result.now in
    let group = a_group c.args.number (Some c.in-Some.name.now) in
    let all : map kind_of nodes ≡ nodes_of (tree_of c.args.self.now) =
    ap (map kind_of) c.deref-node-items.ensures.value ∙ c.self.invariant.exact ∙ ap (λ x. nodes_of (tree_of x)) c.self.view_is in
    subst (λ l. Contains l group) all
    (found_at kind_of nodes c.loop-node.node-index c.node-item.result group c.loop-node-test.true (ap kind_of (sym c.node-item.is) ∙ c.in-Some.ensures))

pub loop-node-preserved : goal.loop-node-preserved
loop-node-preserved c = λ name.
    none_more kind_of c.deref-node-items.result.now c.loop-node.node-index c.node-item.result (a_group c.args.number (Some name)) c.loop-node-test.true (c.loop-node.invariant name)
    (λ e. c.in_default.ensures name (ap kind_of c.node-item.is ∙ e))

pub returns : goal.returns
returns c = λ name found.
    let nodes = c.deref-node-items.result.now in
    let group = a_group c.args.number (Some name) in
    let all : map kind_of nodes ≡ nodes_of (tree_of c.args.self.now) =
    ap (map kind_of) c.deref-node-items.ensures.value ∙ c.self.invariant.exact ∙ ap (λ x. nodes_of (tree_of x)) c.self.view_is in
    let here = subst (λ l. Contains l group) (sym all) found in
    none_all kind_of nodes c.loop-node.node-index group c.loop-node-test.false (c.loop-node.invariant name) here.0 group here.1 here.2
