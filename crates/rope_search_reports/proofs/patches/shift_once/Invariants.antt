-- The number of patches so far that move the rows after them.
use Rattle.std.proofs.Common.{◌≡◌, ◌+◌, ◌≤◌, drop}
use Rattle.rope_search_reports.specs.Patches.{shift_count}
use Rattle.rope_search_reports.proofs.patches.shift_once.Given as goal

abbrev pub invariant-loop-patch : goal.invariant-loop-patch
invariant-loop-patch l = (l.count + shift_count (drop l.patch-index l.patches) ≡ shift_count l.patches) × (l.count ≤ l.patch-index)
