use Rattle.ropey_tree.specs.Counts.{plus}
use Rattle.ropey_tree.specs.Nodes.{LiesIn}
use Rattle.std.proofs.Common.{[], ◌∷◌}
use Rattle.ropey_tree.proofs.Descents.{deeper, Fits, lies_fits, lies_stands}
use Rattle.ropey_tree.proofs.node.leaf_near.Goals as goal
use Rattle.ropey_tree.proofs.node.leaf_near.Goals.{After-descend-found}

lies : (c : After-descend-found) → LiesIn c.args.node.now.pieces (c.descend-found.result.leaf.now ∷ []) c.args.by c.args.i (plus c.way_near-way.result.before c.descend-found.result.before)
lies c =
    let way = c.way_near-way.result in
    let found = c.descend-found.result in
    let within = rw c.by.ensures at c.descend-found.ensures.lies in
    deeper c.args.node.now.pieces way.node.now.pieces (found.leaf.now ∷ []) c.args.by c.args.i way.before found.before c.way_near-way.ensures within

fits : (c : After-descend-found) → Fits c.way_near-way.result.before c.descend-found.result.before
fits c = lies_fits c.args.node.now.pieces (c.descend-found.result.leaf.now ∷ []) c.args.by c.args.i c.way_near-way.result.before c.descend-found.result.before c.height.ensures.tree.text.fits (lies c)

pub plus-requires-clause-bytes : goal.plus-requires-clause-bytes
plus-requires-clause-bytes c = (fits (goal.at.plus-requires-clause-bytes c).After-descend-found).bytes

pub plus-requires-clause-chars : goal.plus-requires-clause-chars
plus-requires-clause-chars c = (fits (goal.at.plus-requires-clause-chars c).After-descend-found).chars

pub plus-requires-clause-units : goal.plus-requires-clause-units
plus-requires-clause-units c = (fits (goal.at.plus-requires-clause-units c).After-descend-found).units

pub plus-requires-clause-breaks : goal.plus-requires-clause-breaks
plus-requires-clause-breaks c = (fits (goal.at.plus-requires-clause-breaks c).After-descend-found).breaks

pub returns-clause-near : goal.returns-clause-near
returns-clause-near c = lies_stands c.args.node.now.pieces c.way_near-way.result.node.now.pieces c.args.by c.args.i c.way_near-way.result.before c.way_near-way.ensures

pub returns-clause-lies : goal.returns-clause-lies
returns-clause-lies c = rw c.plus.ensures (lies (goal.at.returns-clause-lies c).After-descend-found)
