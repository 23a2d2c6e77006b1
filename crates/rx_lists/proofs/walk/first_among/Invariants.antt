use Rattle.std.proofs.Common.{◌≡◌, ℕ, ◌<◌, Some, slice_get}
use Rattle.rx_steps.specs.Threads.{Thread}
use Rattle.rx_lists.specs.Bits.{HasNode}
use Rattle.rx_lists.proofs.walk.first_among.Given as goal

-- no thread up to this one is at such a node
abbrev pub invariant-loop-number : goal.invariant-loop-number
invariant-loop-number l = (k : ℕ) (t : Thread) → k < l.number → slice_get l.threads.threads k ≡ Some t → HasNode l.index l.set t.1 → ⊥
