use Rattle.std.proofs.Common.{take}
use Rattle.rx_walks.specs.Reversed.{has}
use Rattle.rx_utf8.specs.Subsets.{lists_of}
use Rattle.rx_program.specs.Arrivals.{PutsNumber}
use Rattle.rx_program.proofs.arrivals.put_at_all.Given as goal

-- the number was appended to the lists of the states so far
abbrev pub invariant-loop-state : goal.invariant-loop-state
invariant-loop-state l = PutsNumber l.id (λ q. has (take l.state-index l.states) q) (lists_of l.fn.lists.items) (lists_of l.lists.items)
