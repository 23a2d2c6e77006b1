-- The growth by the patches so far.
use Rattle.std.proofs.Common.{◌≡◌, ◌+◌, drop}
use Rattle.rope_search_reports.specs.Patches.{growth_by}
use Rattle.rope_search_reports.proofs.patches.growth.Given as goal

abbrev pub invariant-loop-patch : goal.invariant-loop-patch
invariant-loop-patch l = l.count + growth_by (drop l.patch-index l.patches) ≡ growth_by l.patches
