-- The groups so far, as columns.
use Rattle.std.proofs.Common.{◌≡◌, length, take}
use Rattle.ropey.specs.Slices.{slice_bytes}
use Rattle.rope_search_reports.specs.LineGroups.{in_columns}
use Rattle.rope_search_reports.proofs.columns.groups_by_columns.Given as goal

abbrev pub invariant-loop-k : goal.invariant-loop-k
invariant-loop-k l = (length l.told ≡ 10) × (take l.k l.told ≡ in_columns (slice_bytes l.line) (take l.k l.groups))
