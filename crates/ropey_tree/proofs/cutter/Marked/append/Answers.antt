use Rattle.std.proofs.Common.{◌++◌, ap, arith, ◌∙◌}
use Rattle.std.specs.List.{concat}
use Rattle.ropey_tree.specs.Nodes.{all_pieces}
use Rattle.ropey_tree.proofs.Marks.{front_stays}
use Rattle.ropey_tree.proofs.cutter.Marked.append.Goals as goal

pub invariant_of-self : goal.invariant_of-self
invariant_of-self c =
    let e = c.append_leaves.ensures in
    let same = front_stays c.self.inside.leaves.items c.append_leaves.new.leaves.items c.self.inside.mark c.self.invariant.2 e.front in (
      e.cut,
      rw same c.self.invariant.1,
      omega (arith, e.longer, c.self.invariant.2),
    )

pub returns-clause-mark : goal.returns-clause-mark
returns-clause-mark c =
    let e = c.append_leaves.ensures in
    let same = front_stays c.self.inside.leaves.items c.append_leaves.new.leaves.items c.self.inside.mark c.self.invariant.2 e.front in
    ap (λ leaves. concat (all_pieces leaves) ++ c.self.inside.rest_at_mark) same ∙ ap (λ v. v.mark) c.self.view_is
