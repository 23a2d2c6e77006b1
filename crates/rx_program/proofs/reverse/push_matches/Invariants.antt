use Rattle.std.proofs.Common.{◌≡◌, ◌++◌, map, take}
use Rattle.std.specs.List.{All}
use Rattle.rx_walks.specs.Programs.{match}
use Rattle.rx_walks.specs.Reversed.{indexed}
use Rattle.rx_program.specs.Reversed.{back_node_of, ReadsItsSetBack}
use Rattle.rx_program.proofs.reverse.push_matches.Given as goal

-- the matches of the patterns so far are there
abbrev pub invariant-loop-number : goal.invariant-loop-number
invariant-loop-number l = record {
  nodes : map back_node_of l.states.items ≡ map back_node_of l.fn.states.items ++ indexed (λ k start. match k) 0 (take l.number l.patterns);
  reads : All ReadsItsSetBack l.states.items;
}
