use Rattle.std.proofs.Common.{◌↔◌, IsTrue, Contains, refl, subst}
use Rattle.rx_steps.specs.Nodes.{index_from}
use Rattle.rx_lists.proofs.SetLaws.{member_has}
use Rattle.rx_lists.proofs.node_set.NodeSet.has.Goals as goal

pub returns : goal.returns
returns c =
    let v = c.self.inside.visited in
    subst (λ s. IsTrue c.has.result ↔ Contains s.nodes c.args.node) c.self.view_is
    (member_has v.widths v.ids c.self.inside.nodes.items c.args.node c.has.result (index_from 0 v.widths c.args.node.0 c.args.node.1) refl c.has.ensures c.self.invariant.0)
