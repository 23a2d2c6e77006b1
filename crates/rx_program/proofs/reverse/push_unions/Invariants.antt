use Rattle.std.proofs.Common.{◌≡◌, ◌++◌, map, take}
use Rattle.std.specs.List.{All}
use Rattle.rx_utf8.specs.Subsets.{lists_of}
use Rattle.rx_program.specs.Arrivals.{unions}
use Rattle.rx_program.specs.Reversed.{back_node_of, ReadsItsSetBack}
use Rattle.rx_program.proofs.reverse.push_unions.Given as goal

-- there is a state for each of the lists so far
abbrev pub invariant-loop-list : goal.invariant-loop-list
invariant-loop-list l = record {
  nodes : map back_node_of l.states.items ≡ map back_node_of l.fn.states.items ++ unions (take l.list-index (lists_of l.lists));
  reads : All ReadsItsSetBack l.states.items;
}
