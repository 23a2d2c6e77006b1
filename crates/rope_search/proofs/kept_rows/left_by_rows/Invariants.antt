-- What is left by the rows so far.
use Rattle.std.proofs.Common.{◌≡◌, ◌-◌, drop, sum_by}
use Rattle.rope_search.specs.KeptRows.{row_bytes}
use Rattle.rope_search.proofs.kept_rows.left_by_rows.Given as goal

abbrev pub invariant-loop-row : goal.invariant-loop-row
invariant-loop-row l = l.left - sum_by row_bytes (drop l.row-index l.rows) ≡ l.bytes - sum_by row_bytes l.rows
