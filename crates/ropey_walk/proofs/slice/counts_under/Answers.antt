use Rattle.std.proofs.Common.{◌∙◌}
use Rattle.ropey_tree.proofs.CuttingLaws.{counts_of_a_cutting}
use Rattle.ropey_walk.proofs.slice.counts_under.Goals as goal

pub returns-in-Some-clause-counts : goal.returns-in-Some-clause-counts
returns-in-Some-clause-counts c = rw c.in-Some.is (c.counts.ensures ∙ counts_of_a_cutting c.in-Some.node.now.pieces c.height.ensures.tree.text.cut)
