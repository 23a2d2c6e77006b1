use Rattle.ropey_tree.specs.Nodes.{all_pieces}
use Rattle.ropey_tree.specs.Siblings.{views}
use Rattle.ropey.proofs.Making.{fits_in}
use Rattle.ropey.proofs.trees.tree_of.Goals as goal

pub from_leaves-requires-clause-text : goal.from_leaves-requires-clause-text
from_leaves-requires-clause-text c =
    let e = c.in_ok-leaves.ensures in
    fits_in (all_pieces (views c.in_ok-leaves.leaves.items)) c.args.text.now e.cut e.text c.utf8.text c.requires.fits
