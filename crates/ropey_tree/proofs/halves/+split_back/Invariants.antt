use Rattle.ropey_tree.proofs.halves.+split_back.Given as goal

abbrev pub decreases-split_back : goal.decreases-split_back
decreases-split_back l = l.node.now.value.height
