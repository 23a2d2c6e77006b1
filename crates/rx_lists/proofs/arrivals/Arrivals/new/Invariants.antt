use Rattle.std.proofs.Common.{◌≡◌, length}
use Rattle.rx_lists.specs.Arrivals.{nodes_in}
use Rattle.rx_lists.proofs.ArrivalLaws.{TellSoFar}
use Rattle.rx_lists.proofs.arrivals.Arrivals.new.Given as goal

-- the lists have the transitions of the states up to this one
abbrev pub invariant-loop-number : goal.invariant-loop-number
invariant-loop-number l = record {
  count : length (nodes_in l.lists.items) ≡ length l.states;
  told : TellSoFar l.states l.number (nodes_in l.lists.items);
}
