use Rattle.ropey_tree.specs.Counts.{total}
use Rattle.ropey_tree.proofs.seams.+append_both.Given as goal

abbrev pub decreases-append_both : goal.decreases-append_both
decreases-append_both l = (total l.right.now.value.pieces).bytes
