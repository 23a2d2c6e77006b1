use Rattle.std.proofs.Common.{◌≡◌, ℕ, ◌<◌, Some, None, slice_get}
use Rattle.rx_onepass.proofs.noted.first_marked.Given as goal

abbrev pub invariant-loop-index : goal.invariant-loop-index
invariant-loop-index l = (k : ℕ) → k < l.index → slice_get l.marks k ≡ Some None
