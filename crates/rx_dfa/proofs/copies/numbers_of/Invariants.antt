use Rattle.std.proofs.Common.{take}
use Rattle.rx_dfa.specs.Caches.{AreNumbered}
use Rattle.rx_dfa.proofs.copies.numbers_of.Given as goal

-- those so far have a number
abbrev pub invariant-loop-number : goal.invariant-loop-number
invariant-loop-number l = AreNumbered (take l.number l.states) l.numbers
