-- Those that were passed start before the column.
use Rattle.std.proofs.Common.{◌≡◌, ℕ, ◌<◌}
use Rattle.std.specs.Prelude.{Some, slice_get}
use Rattle.rope_search.proofs.listed.first_in.Given as goal

abbrev pub invariant-loop-number : goal.invariant-loop-number
invariant-loop-number l = (k : ℕ) (span : ℕ × ℕ) → k < l.number → slice_get l.row k ≡ Some span → span.0 < l.column
