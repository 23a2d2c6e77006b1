use Rattle.std.proofs.Common.{◌≡◌, ◌++◌, map, take}
use Rattle.std.specs.List.{All}
use Rattle.rx_walks.specs.Reversed.{edge_back, indexed}
use Rattle.rx_program.specs.Programs.{node_of}
use Rattle.rx_program.specs.Reversed.{back_node_of, ReadsItsSetBack}
use Rattle.rx_program.proofs.reverse.push_edges_back.Given as goal

-- the edges of the states so far are there
abbrev pub invariant-loop-from : goal.invariant-loop-from
invariant-loop-from l = record {
  nodes : map back_node_of l.states.items ≡ map back_node_of l.fn.states.items ++ indexed edge_back 0 (take l.from (map node_of l.forward));
  reads : All ReadsItsSetBack l.states.items;
}
