use Rattle.ropey_tree.proofs.edits.+replaced.Given as goal

abbrev pub decreases-replaced : goal.decreases-replaced
decreases-replaced l = l.node.now.value.height
