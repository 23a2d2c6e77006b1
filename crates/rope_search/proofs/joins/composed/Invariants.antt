-- The changes composed so far.
use Rattle.std.proofs.Common.{◌≡◌, ◌+◌}
use Rattle.rope_search.proofs.JoinSteps.{SoFar}
use Rattle.rope_search.proofs.joins.composed.Given as goal

abbrev pub invariant-loop : goal.invariant-loop
invariant-loop l = SoFar l.first l.second l.joint l.i l.j l.changes.items × (l.i + l.j ≡ l.counter)
