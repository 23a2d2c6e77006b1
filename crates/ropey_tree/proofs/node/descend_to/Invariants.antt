use Rattle.std.proofs.Common.{◌≡◌, ◌+◌, ◌-◌, ◌*◌, ◌≤◌, true}
use Rattle.ropey_tree.specs.Counts.{total}
use Rattle.ropey_tree.specs.Nodes.{LiesIn}
use Rattle.ropey_tree.proofs.node.descend_to.Given as goal

abbrev pub invariant-loop : goal.invariant-loop
invariant-loop l = (LiesIn l.node.pieces l.at.pieces l.by l.i l.before) × (l.visits.nodes + l.height ≡ l.fn.visits.nodes + l.counter) × (l.at.height + l.counter ≡ l.node.height + l.height) × (l.visits.comparisons ≤ l.fn.visits.comparisons + 5 * (l.counter - l.height)) × (l.height ≤ l.counter) × (l.is_ascii ≡ true → (total l.at.pieces).chars ≡ (total l.at.pieces).bytes)
