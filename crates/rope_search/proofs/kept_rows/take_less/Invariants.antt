-- What is left by the patches so far.
use Rattle.std.proofs.Common.{◌≡◌, ◌-◌, drop}
use Rattle.rope_search.specs.KeptRows.{bytes_kept}
use Rattle.rope_search.proofs.kept_rows.take_less.Given as goal

abbrev pub invariant-loop-patch : goal.invariant-loop-patch
invariant-loop-patch l = l.left - bytes_kept (drop l.patch-index l.patches) ≡ l.bytes - bytes_kept l.patches
