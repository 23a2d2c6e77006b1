use Rattle.std.proofs.Common.{◌≡◌, take}
use Rattle.rx_dfa.proofs.copies.copies.Given as goal

-- those so far were copied
abbrev pub invariant-loop-state : goal.invariant-loop-state
invariant-loop-state l = l.copies.items ≡ take l.state-index l.states
