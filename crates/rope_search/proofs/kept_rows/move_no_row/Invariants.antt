-- The patches so far move no row.
use Rattle.std.proofs.Common.{◌≡◌, ◌+◌, ◌<◌, ℕ, length, slice_index_or}
use Rattle.rope_search_reports.specs.declared.patches.Patch.{Patch}
use Rattle.rope_search.proofs.kept_rows.move_no_row.Given as goal

abbrev pub invariant-loop-patch : goal.invariant-loop-patch
invariant-loop-patch l = (k : ℕ) (d : Patch) → k < l.patch-index
    → (slice_index_or l.patches k d).first + length (slice_index_or l.patches k d).made.items ≡ (slice_index_or l.patches k d).end
