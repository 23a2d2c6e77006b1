use Rattle.std.proofs.Common.{[]}
use Rattle.rx_utf8.specs.Subsets.{lists_of}
use Rattle.rx_program.specs.Arrivals.{AreLists}
use Rattle.rx_program.proofs.arrivals.empty_lists.Given as goal

abbrev pub invariant-loop : goal.invariant-loop
invariant-loop l = AreLists l.counter (λ q. []) (lists_of l.lists.items)
