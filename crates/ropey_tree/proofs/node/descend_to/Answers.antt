use Rattle.std.proofs.Common.{arith}
use Rattle.std.proofs.lemmas.Bool.{false≢true}
use Rattle.ropey_tree.specs.Counts.{plus}
use Rattle.ropey_tree.specs.Nodes.{LiesIn}
use Rattle.ropey_tree.proofs.Descents.{whole_lies, deeper, Fits, lies_fits, known_bytes}
use Rattle.ropey_tree.proofs.node.descend_to.Goals as goal
use Rattle.ropey_tree.proofs.node.descend_to.Goals.{After-enter-entered}

pub loop-init : goal.loop-init
loop-init c = rw c.zero-before.ensures (whole_lies c.args.node.now.pieces c.args.by c.args.i, omega arith, omega arith, omega arith, omega arith, λ e. absurd (false≢true e))

lies : (c : After-enter-entered) → LiesIn c.args.node.now.pieces c.enter-entered.result.node.now.pieces c.args.by c.args.i (plus c.loop.before c.enter-entered.result.before)
lies c =
    let within = rw c.by.ensures at c.enter-entered.ensures.lies in
    deeper c.args.node.now.pieces c.loop.at.now.pieces c.enter-entered.result.node.now.pieces c.args.by c.args.i c.loop.before c.enter-entered.result.before c.loop.invariant.0 within

fits : (c : After-enter-entered) → Fits c.loop.before c.enter-entered.result.before
fits c = lies_fits c.args.node.now.pieces c.enter-entered.result.node.now.pieces c.args.by c.args.i c.loop.before c.enter-entered.result.before c.height-end.ensures.tree.text.fits (lies c)

pub plus-before-requires-clause-bytes : goal.plus-before-requires-clause-bytes
plus-before-requires-clause-bytes c = (fits (goal.at.plus-before-requires-clause-bytes c).After-enter-entered).bytes

pub plus-before-requires-clause-chars : goal.plus-before-requires-clause-chars
plus-before-requires-clause-chars c = (fits (goal.at.plus-before-requires-clause-chars c).After-enter-entered).chars

pub plus-before-requires-clause-units : goal.plus-before-requires-clause-units
plus-before-requires-clause-units c = (fits (goal.at.plus-before-requires-clause-units c).After-enter-entered).units

pub plus-before-requires-clause-breaks : goal.plus-before-requires-clause-breaks
plus-before-requires-clause-breaks c = (fits (goal.at.plus-before-requires-clause-breaks c).After-enter-entered).breaks

pub loop-preserved : goal.loop-preserved
loop-preserved c =
    let step = lies (goal.at.loop-preserved c).After-enter-entered in
    (rw c.plus-before.ensures step, omega (arith, c.enter-entered.ensures.visited, c.loop.invariant.1), omega (arith, c.enter-entered.ensures.level, c.loop.invariant.2), omega (arith, c.enter-entered.ensures.compared, c.loop.invariant.3, c.loop.invariant.4), omega (arith, c.loop.invariant.4), λ e. known_bytes c.enter-entered.result.len c.enter-entered.result.node.now.pieces e c.enter-entered.ensures.counted)
