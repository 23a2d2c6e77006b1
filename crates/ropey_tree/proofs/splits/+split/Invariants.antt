use Rattle.ropey_tree.proofs.splits.+split.Given as goal

abbrev pub decreases-split : goal.decreases-split
decreases-split l = l.node.now.value.height
