-- The changes of the versions so far, composed.
use Rattle.std.proofs.Common.{◌≤◌}
use Rattle.rope_search.specs.Joints.{version_changes, version_texts}
use Rattle.rope_search.proofs.JoinedLemmas.{Between}
use Rattle.rope_search.proofs.history.changes_between.Given as goal

abbrev pub invariant-loop-k : goal.invariant-loop-k
invariant-loop-k l = Between (version_texts l.versions) (version_changes l.versions) l.k l.changes.items × (1 ≤ l.k)
