-- The rows dropped so far.
use Rattle.std.proofs.Common.{◌≡◌, ◌≤◌, drop}
use Rattle.std.specs.Vec.Iter.{into_iter_items}
use Rattle.rope_search_reports.proofs.patches.drop_rows.Given as goal

abbrev pub invariant-loop : goal.invariant-loop
invariant-loop l = (into_iter_items l.left ≡ drop l.counter (into_iter_items l.fn.left)) × (l.counter ≤ l.count)
