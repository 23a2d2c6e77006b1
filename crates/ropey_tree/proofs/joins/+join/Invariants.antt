use Rattle.std.proofs.Common.{◌+◌}
use Rattle.ropey_tree.proofs.joins.+join.Given as goal

abbrev pub decreases-join : goal.decreases-join
decreases-join l = l.left.now.value.height + l.right.now.value.height
