-- Those that were passed start at the column or after it.
use Rattle.std.proofs.Common.{◌≡◌, ℕ, ◌≤◌, length}
use Rattle.std.specs.Prelude.{Some, slice_get}
use Rattle.rope_search.proofs.listed.last_in.Given as goal

abbrev pub invariant-loop-left : goal.invariant-loop-left
invariant-loop-left l = (l.left ≤ length l.row)
    × ((k : ℕ) (span : ℕ × ℕ) → l.left ≤ k → slice_get l.row k ≡ Some span → l.column ≤ span.0)

abbrev pub decreases-loop-left : goal.decreases-loop-left
decreases-loop-left l = l.left
