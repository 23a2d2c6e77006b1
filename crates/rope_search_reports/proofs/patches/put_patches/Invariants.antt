-- The patches so far are in the list, with the rows before the last of them.
use Rattle.std.proofs.Common.{vec_capacity}
use Rattle.std.specs.Vec.Iter.{into_iter_items}
use Rattle.rope_search_reports.proofs.PutLemmas.{IsPut}
use Rattle.rope_search_reports.proofs.patches.put_patches.Given as goal

abbrev pub invariant-loop-patch : goal.invariant-loop-patch
invariant-loop-patch l =
    (goal.iterator-loop-patch).can_next l.patch-iterator ×
    (goal.iterator-loop-patch).is_finite l.patch-iterator ×
    IsPut l.fn.rows.items l.fn.patches.items l.rows.items (into_iter_items l.left) l.at (into_iter_items l.patch-iterator) (vec_capacity l.rows)
