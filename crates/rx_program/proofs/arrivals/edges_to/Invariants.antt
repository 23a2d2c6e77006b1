use Rattle.std.proofs.Common.{[], ◌++◌, length, map, take}
use Rattle.rx_walks.specs.Reversed.{those, leads_to}
use Rattle.rx_program.specs.Programs.{node_of}
use Rattle.rx_utf8.specs.Subsets.{lists_of}
use Rattle.rx_program.specs.Arrivals.{AreLists}
use Rattle.rx_program.proofs.arrivals.edges_to.Given as goal

-- the lists have the edges of the states so far
abbrev pub invariant-loop-from : goal.invariant-loop-from
invariant-loop-from l =
    let nodes = map node_of l.states in
    AreLists (length nodes) (λ q. [] ++ those (leads_to q) (length nodes) (take l.from nodes)) (lists_of l.lists.items)
