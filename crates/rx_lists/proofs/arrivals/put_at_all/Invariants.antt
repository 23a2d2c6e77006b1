use Rattle.std.proofs.Common.{take}
use Rattle.rx_lists.specs.Arrivals.{AreTold, nodes_in}
use Rattle.rx_lists.proofs.arrivals.put_at_all.Given as goal

-- the node is in the lists of the states up to this one
abbrev pub invariant-loop-on : goal.invariant-loop-on
invariant-loop-on l = AreTold l.from (take l.on-index l.ons) (nodes_in l.fn.lists.items) (nodes_in l.lists.items)
