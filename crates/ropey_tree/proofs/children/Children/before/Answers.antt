use Rattle.std.proofs.Common.{◌≤◌, ap, length, take, arith, ◌∙◌}
use Rattle.ropey_tree.specs.Counts.{total}
use Rattle.ropey_tree.specs.Nodes.{all_pieces}
use Rattle.ropey_tree.specs.Children.{views}
use Rattle.ropey_tree.proofs.Running.{totals-before}
use Rattle.ropey_tree.proofs.children.Children.before.Goals as goal

pub before-requires : goal.before-requires
before-requires c = omega (arith, c.requires, c.self.invariant.counted.number, ap length c.self.view_is)

pub returns : goal.returns
returns c =
    let within : c.args.k ≤ length (views c.self.inside.nodes.items) = omega (arith, c.requires, ap length c.self.view_is) in
    totals-before (views c.self.inside.nodes.items) c.self.inside.totals c.args.k c.before-2.result c.self.invariant.counted within c.before-2.ensures.start c.before-2.ensures.end
    ∙ ap (λ vs. total (all_pieces (take c.args.k vs))) c.self.view_is
