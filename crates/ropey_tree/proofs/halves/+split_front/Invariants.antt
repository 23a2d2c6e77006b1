use Rattle.ropey_tree.proofs.halves.+split_front.Given as goal

abbrev pub decreases-split_front : goal.decreases-split_front
decreases-split_front l = l.node.now.value.height
