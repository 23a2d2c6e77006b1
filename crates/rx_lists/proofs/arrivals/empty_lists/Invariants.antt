use Rattle.std.proofs.Common.{◌≡◌, length}
use Rattle.rx_lists.specs.Arrivals.{nodes_in}
use Rattle.rx_lists.proofs.arrivals.empty_lists.Given as goal

abbrev pub invariant-loop : goal.invariant-loop
invariant-loop l = length (nodes_in l.lists.items) ≡ l.counter
