use Rattle.std.proofs.Common.{◌*◌, ◌++◌, ◌==◌, length, map, take}
use Rattle.rx_walks.specs.Reversed.{those, leads_to}
use Rattle.rx_program.specs.Programs.{node_of}
use Rattle.rx_utf8.specs.Subsets.{lists_of}
use Rattle.rx_program.specs.Arrivals.{AreLists}
use Rattle.rx_program.proofs.arrivals.arrivals.Given as goal

-- the lists have all edges, and the starts of the patterns so far
abbrev pub invariant-loop-number : goal.invariant-loop-number
invariant-loop-number l =
    let nodes = map node_of l.states in
    AreLists (length nodes) (λ q. those (leads_to q) (length nodes) nodes ++ those (λ start. start == q) (2 * length nodes) (take l.number l.patterns)) (lists_of l.lists.items)
