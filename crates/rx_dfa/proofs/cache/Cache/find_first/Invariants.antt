use Rattle.std.proofs.Common.{◌≡◌, ℕ, ◌<◌, Some, slice_get}
use Rattle.rx_dfa.specs.declared.states.AutomatonState.{AutomatonState}
use Rattle.rx_dfa.specs.States.{IsFirstState}
use Rattle.rx_dfa.proofs.cache.Cache.find_first.Given as goal

-- none of the states so far is that start state
abbrev pub invariant-loop-number : goal.invariant-loop-number
invariant-loop-number l = (k : ℕ) (x : AutomatonState) → k < l.number → slice_get l.self.states k ≡ Some x → IsFirstState l.starting l.behind x → ⊥
