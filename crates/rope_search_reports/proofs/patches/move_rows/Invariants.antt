-- The rows moved so far.
use Rattle.std.proofs.Common.{◌≡◌, ◌≤◌, ◌++◌, take, drop, vec_capacity}
use Rattle.std.specs.Vec.Iter.{into_iter_items}
use Rattle.rope_search_reports.proofs.patches.move_rows.Given as goal

abbrev pub invariant-loop : goal.invariant-loop
invariant-loop l =
    (into_iter_items l.left ≡ drop l.counter (into_iter_items l.fn.left)) × (l.counter ≤ l.count)
    × (l.rows.items ≡ l.fn.rows.items ++ take l.counter (into_iter_items l.fn.left)) × (vec_capacity l.rows ≡ vec_capacity l.fn.rows)
