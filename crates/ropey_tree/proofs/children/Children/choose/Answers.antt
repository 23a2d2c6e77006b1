use Rattle.std.proofs.Common.{◌≤◌, length, take, ap, sym, arith, ◌∙◌}
use Rattle.ropey_tree.specs.Counts.{total, amount}
use Rattle.ropey_tree.specs.Nodes.{all_pieces}
use Rattle.ropey_tree.specs.Children.{views}
use Rattle.ropey_tree.proofs.Running.{totals-not_past}
use Rattle.ropey_tree.proofs.children.Children.choose.Goals as goal

pub returns-clause-not_past : goal.returns-clause-not_past
returns-clause-not_past c =
    let k = c.find-index.result in
    let h = c.self.invariant.counted in
    let within : k ≤ length (views c.self.inside.nodes.items) = omega (arith, c.find-index.ensures.within, h.number) in
    let low = totals-not_past (views c.self.inside.nodes.items) c.self.inside.totals c.args.by c.args.i k h within c.find-index.ensures.not_past in
    let is = c.before-2.ensures ∙ ap (λ vs. total (all_pieces (take k vs))) (sym c.self.view_is) in
    omega (arith, ap (amount c.args.by) is, low)
