use Rattle.std.proofs.Common.{◌-◌, length}
use Rattle.ropey_tree.specs.Siblings.{views}
use Rattle.ropey_tree.proofs.Levels.{IsLevelSoFar}
use Rattle.ropey_tree.proofs.builds.level.Given as goal

abbrev pub invariant-loop-from : goal.invariant-loop-from
invariant-loop-from l = IsLevelSoFar l.height (views l.nodes) (views l.above.items) l.from

abbrev pub decreases-loop-from : goal.decreases-loop-from
decreases-loop-from l = length l.nodes - l.from
