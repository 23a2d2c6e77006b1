-- The last patches are applied, and there is room for the first ones.
use Rattle.std.proofs.Common.{length, vec_capacity}
use Rattle.rope_search_reports.proofs.PutLemmas.{IsPutDown}
use Rattle.rope_search_reports.proofs.patches.put_in_place.Given as goal

abbrev pub invariant-loop-patch : goal.invariant-loop-patch
invariant-loop-patch l = IsPutDown l.fn.rows.items l.fn.patches.items l.rows.items l.patches.items (vec_capacity l.rows)

abbrev pub decreases-loop-patch : goal.decreases-loop-patch
decreases-loop-patch l = length l.patches.items
