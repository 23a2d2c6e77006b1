use Rattle.std.proofs.Common.{subst, ap, sym, ◌∙◌, arith}
use Rattle.ropey_tree.specs.Nodes.{IsTree}
use Rattle.ropey_tree.specs.Bodies.{view_of, IsBody}
use Rattle.ropey_tree.proofs.Heights.{inner_tree, height-le}
use Rattle.ropey_tree.proofs.node.Node.height.Goals as goal
use Rattle.ropey_tree.proofs.node.Node.height.Goals.{In-Inner}

tree : (c : In-Inner) → IsTree c.args.self.now
tree c =
    let is = sym (ap view_of c.in-Inner.is) ∙ c.self.view_is in
    let body = subst IsBody c.in-Inner.is c.self.invariant in
    subst IsTree is (inner_tree c.in-Inner.height c.in-Inner.children body)

pub returns-in-Inner-clause-low : goal.returns-in-Inner-clause-low
returns-in-Inner-clause-low c =
    let is = sym (ap view_of c.in-Inner.is) ∙ c.self.view_is in
    omega (arith, height-le c.args.self.now (tree (goal.at.returns-in-Inner-clause-low c).In-Inner), ap (λ v. v.height) is)

pub returns-in-Inner-clause-tree : goal.returns-in-Inner-clause-tree
returns-in-Inner-clause-tree c = tree (goal.at.returns-in-Inner-clause-tree c).In-Inner
