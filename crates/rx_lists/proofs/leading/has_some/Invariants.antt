use Rattle.std.proofs.Common.{◌≡◌, ℕ, ◌<◌, Some, slice_get, Contains}
use Rattle.rx_lists.proofs.leading.has_some.Given as goal

-- none of the states up to this one is here
abbrev pub invariant-loop-state : goal.invariant-loop-state
invariant-loop-state l = (k : ℕ) → k < l.state-index → (q : ℕ) → slice_get l.states k ≡ Some q → Contains l.here.nodes (q, 0) → ⊥
